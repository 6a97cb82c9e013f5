use Rattle.std.proofs.Common.{◌+◌, drop, sym, ap, ◌∙◌, arith}
use Rattle.std.proofs.lemmas.List.{drop_all}
use Rattle.fills.specs.Fills.{sized}
use Rattle.fills.proofs.Sizes.{sized_step, sized_stop, sized_over, sized_none}
use Rattle.fills.proofs.total.Goals as goal

pub returns-in_err-size : goal.returns-in_err-size
returns-in_err-size c = c.from_residual.ensures ∙ sym (sized_stop c.args.fields.now c.loop-field.field-index c.loop-field.total c.loop-field-test.true c.in_err-size.ensures) ∙ c.loop-field.invariant.0

pub returns-in_err-total : goal.returns-in_err-total
returns-in_err-total c =
    let fs = c.args.fields.now in
    let i = c.loop-field.field-index in
    c.from_residual-in_err-total.ensures ∙ sym (sized_step fs i c.loop-field.total c.in_ok-size.field-0 c.loop-field-test.true c.in_ok-size.ensures ∙ sized_over fs (i + 1) (c.loop-field.total + c.in_ok-size.field-0) (omega (arith, c.in_err-total.ensures))) ∙ c.loop-field.invariant.0

pub loop-field-preserved : goal.loop-field-preserved
loop-field-preserved c =
    let told = c.in_ok-total.ensures in
    (ap (λ n. sized n (drop (c.loop-field.field-index + 1) c.args.fields.now)) told.1 ∙ sym (sized_step c.args.fields.now c.loop-field.field-index c.loop-field.total c.in_ok-size.field-0 c.loop-field-test.true c.in_ok-size.ensures) ∙ c.loop-field.invariant.0, omega (arith, told.0, told.1))

pub returns : goal.returns
returns c =
    sym (sized_none c.loop-field.total c.loop-field.invariant.1) ∙ sym (ap (sized c.loop-field.total) (drop_all c.loop-field.field-index c.args.fields.now c.loop-field-test.false)) ∙ c.loop-field.invariant.0
