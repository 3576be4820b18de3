-- What a `TcpDoor` is made of.
use Rattle.std.specs.Prelude.{ℕ, Option}
use Rattle.dcr_serve.specs.declared.tcp_door.TcpDoor.{TcpDoor}

-- how many calls have failed, or 2^64 - 1 where there were more
abbrev pub failed_calls : {R L : Type 0} → TcpDoor R L → ℕ
failed_calls door = door.faults

-- where it listens, once it does
abbrev pub port_of : {R L : Type 0} → TcpDoor R L → ℕ
port_of door = door.port

-- the handle by which it listens
abbrev pub handle_of : {R L : Type 0} → TcpDoor R L → R
handle_of door = door.rt

-- what its connections come to, once it listens
abbrev pub listener_of : {R L : Type 0} → TcpDoor R L → Option L
listener_of door = door.listener
