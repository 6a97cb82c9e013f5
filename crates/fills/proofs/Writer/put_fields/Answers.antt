use Rattle.std.proofs.Common.{◌≡◌, ◌+◌, [], ◌++◌, drop, sym, ap, ◌∙◌, subst}
use Rattle.std.proofs.lemmas.List.{drop_all}
use Rattle.fills.specs.Fills.{HasRoom, Puts, body_bytes, field_bytes}
use Rattle.fills.proofs.Puts.{room_before, room_behind, puts_both, puts_none}
use Rattle.fills.proofs.Sizes.{at, body_step, body_none, fit_step}
use Rattle.fills.proofs.Writer.put_fields.Goals as goal

pub put_field-requires-clause-fits : goal.put_field-requires-clause-fits
put_field-requires-clause-fits c = (fit_step c.args.fields.now c.loop-field.field-index c.loop-field-test.true c.loop-field.invariant.2).0

pub put_field-requires-clause-room : goal.put_field-requires-clause-room
put_field-requires-clause-room c =
    let fs = c.args.fields.now in
    let i = c.loop-field.field-index in
    room_before (field_bytes (at fs i)) (body_bytes (drop (i + 1) fs)) c.loop-field.self (subst (λ bs. HasRoom bs c.loop-field.self) (body_step fs i c.loop-field-test.true) c.loop-field.invariant.1)

pub loop-field-preserved : goal.loop-field-preserved
loop-field-preserved c =
    let fs = c.args.fields.now in
    let i = c.loop-field.field-index in
    let f = field_bytes (at fs i) in
    let rest = body_bytes (drop (i + 1) fs) in
    let e = body_step fs i c.loop-field-test.true in
    let room : HasRoom (f ++ rest) c.loop-field.self = subst (λ bs. HasRoom bs c.loop-field.self) e c.loop-field.invariant.1 in (
      λ w p. c.loop-field.invariant.0 w (subst (λ bs. Puts bs c.loop-field.self w) (sym e) (puts_both f rest c.loop-field.self c.put_field.new.self w room c.put_field.ensures p)),
      room_behind f rest c.loop-field.self c.put_field.new.self room c.put_field.ensures,
      (fit_step fs i c.loop-field-test.true c.loop-field.invariant.2).1,
    )

pub returns : goal.returns
returns c =
    let none : body_bytes (drop c.loop-field.field-index c.args.fields.now) ≡ [] = ap body_bytes (drop_all c.loop-field.field-index c.args.fields.now c.loop-field-test.false) ∙ body_none in
    c.loop-field.invariant.0 c.loop-field.self (subst (λ bs. Puts bs c.loop-field.self c.loop-field.self) (sym none) (puts_none c.loop-field.self))
