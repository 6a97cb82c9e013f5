use Rattle.std.proofs.Common.{◌≡◌, [], ◌∷◌, ◌++◌, reverse, length, vec_items, sym, refl, ap, ◌∙◌, arith}
use Rattle.std.proofs.lemmas.List.{nil_from_length}
use Rattle.simdrives.specs.Sims.{holds_at, drive_of}
use Rattle.simdrives.proofs.Undone.{among_first, back_among, back_rest, cut_all}
use Rattle.simdrives.proofs.sectors.Sectors.go_back.Goals as goal

pub loop-before-init : goal.loop-before-init
loop-before-init c = (among_first _ _, ([], refl))

pub loop-before-preserved-then-one_less : goal.loop-before-preserved-then-one_less
loop-before-preserved-then-one_less c =
    let w = c.in-Some.before in
    let done = c.loop-before.invariant.1.0 in
    let all = vec_items c.args.self.now.undo in
    let xs = vec_items c.loop-before.self.undo in
    let ys = vec_items c.pop.new.self in
    let p = c.loop-before.invariant.1.1 in
    let q = c.in-Some.ensures.items in (
      back_among (holds_at c.args.self.now) (holds_at c.loop-before.self) (holds_at c.put_back.new.self) done xs ys all w p q c.loop-before.invariant.0 c.put_back.ensures.here c.put_back.ensures.other,
      (done ++ w ∷ [], back_rest done xs ys all w p q ∙ ap (λ u. (done ++ w ∷ []) ++ reverse (vec_items u)) (sym c.put_back.ensures.undo)),
    )

pub loop-before-preserved-else-one_less : goal.loop-before-preserved-else-one_less
loop-before-preserved-else-one_less c =
    let w = c.in-Some.before in
    let done = c.loop-before.invariant.1.0 in (
      c.loop-before.invariant.0,
      (done ++ w ∷ [], back_rest done (vec_items c.loop-before.self.undo) (vec_items c.pop.new.self) (vec_items c.args.self.now.undo) w c.loop-before.invariant.1.1 c.in-Some.ensures.items),
    )

pub loop-before-preserved : goal.loop-before-preserved
loop-before-preserved c =
    let w = c.in-Some.before in
    let done = c.loop-before.invariant.1.0 in (
      c.loop-before.invariant.0,
      (done ++ w ∷ [], back_rest done (vec_items c.loop-before.self.undo) (vec_items c.pop.new.self) (vec_items c.args.self.now.undo) w c.loop-before.invariant.1.1 c.in-Some.ensures.items),
    )

pub returns : goal.returns
returns c =
    let v = c.pop.new.self in
    let n : length (vec_items v) ≡ 0 = omega (arith, v.ok.0, c.in_default.ensures.cases.1) in
    cut_all (drive_of c.args.self.now) (holds_at c.loop-before.self) (vec_items v) (nil_from_length (vec_items v) n) c.loop-before.invariant.0
