use Rattle.std.proofs.Common.{◌≡◌, ◌++◌, take, drop}
use Rattle.console.specs.Hex.{unhexed}
use Rattle.console.proofs.digits.lay_pairs.Given as goal

abbrev pub invariant-loop-i : goal.invariant-loop-i
invariant-loop-i l = l.line ≡ take l.i (unhexed l.digits) ++ drop l.i l.initial.line
