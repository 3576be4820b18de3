use Rattle.std.proofs.Common.{false, true, take, sym, ap, ◌∙◌, inl, arith}
use Rattle.dcr_text.specs.Cutting.{Cutter}
use Rattle.dcr_text.proofs.CuttingLemmas.{added, cuts_line, takes_all, finds_long}
use Rattle.dcr_text.proofs.cutter.LineCutter.take.Goals as goal

pub returns-then-end-room : goal.returns-then-end-room
returns-then-end-room c =
    inl (finds_long c.args.self.now c.give_up.new.self c.args.piece.now c.begin-room.result c.line_end-end.result
    (sym c.is_too_long.ensures ∙ c.if-is_too_long.false) c.begin-room.ensures.room c.line_end-end.ensures.within c.line_end-end.ensures.no_end
    c.if-end-room.true
    (ap (λ (x : Cutter). x.is_long) c.give_up.ensures)
    (ap (λ (x : Cutter). x.limit) c.give_up.ensures ∙ ap (λ (x : Cutter). x.limit) c.begin-room.ensures.begun))

pub returns-then-end-piece : goal.returns-then-end-piece
returns-then-end-piece c =
    takes_all c.args.self.now c.add.new.self c.args.piece.now c.begin-room.result c.line_end-end.result
    (sym c.is_too_long.ensures ∙ c.if-is_too_long.false) c.begin-room.ensures.room c.line_end-end.ensures.within c.line_end-end.ensures.no_end
    c.if-end-piece.true
    c.if-end-room.false
    (added c.args.self.now c.begin-room.new.self c.add.new.self c.args.piece.now false c.begin-room.ensures.begun c.add.ensures)

pub returns : goal.returns
returns c =
    cuts_line c.args.self.now c.add-2.new.self c.args.piece.now c.begin-room.result c.line_end-end.result
    (sym c.is_too_long.ensures ∙ c.if-is_too_long.false) c.begin-room.ensures.room c.line_end-end.ensures.within c.line_end-end.ensures.no_end
    (omega arith)
    (c.line_end-end.ensures.stands (omega arith))
    c.if-end-room.false
    (added c.args.self.now c.begin-room.new.self c.add-2.new.self (take c.line_end-end.result c.args.piece.now) true c.begin-room.ensures.begun c.add-2.ensures)
