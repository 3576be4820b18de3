-- What the fields of a `Scene` stand for.
use Rattle.std.specs.Prelude.{◌≡◌}
use Rattle.dcr_line.specs.DirectoryModel.{named}
use Rattle.dcr_link.specs.Replies.{Terms, terms_of}
use Rattle.dcr_link.specs.declared.scene.Scene.TheInside.{Inside}

abbrev pub scene_of : Inside → Terms
scene_of s = terms_of s.cover.now.names s.graph.now.names s.policy.now

-- names are found in the directory
abbrev pub IsScene : Inside → Type 0
IsScene s = s.directory ≡ named s.cover.now.names s.graph.now.names
