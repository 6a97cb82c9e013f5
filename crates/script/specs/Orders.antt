-- The commands of a script that only a rehearsal has.
-- Assumes nothing.
use Rattle.std.specs.Prelude.{ℕ, ◌+◌, cond, List, take, drop, Some, None, codes, Option, ◌==◌, position}
use Rattle.std.specs.Option.{option_map, option_or}
use Rattle.console.specs.Commands.{begins_with, is_word}
use Rattle.script.specs.Numbers.{number_of, number_after}
use Rattle.script.specs.declared.Chosen.{Chosen}
use Rattle.script.specs.declared.Chosen.TheVariants.{Seed, Bits}
use Rattle.script.specs.declared.Order.{Order}
use Rattle.script.specs.declared.Order.TheVariants.{Drives, Longest, MendWhole, Lose, Replace, Asked, Cut}

abbrev pub chosen_of : List ℕ → Option Chosen
chosen_of t = option_or (option_map Bits (number_after (codes "bits ") t)) (option_map Seed (number_of t))

abbrev pub cut_by : Option ℕ → Option Chosen → Option Order
cut_by None c = None
cut_by (Some n) None = None
cut_by (Some n) (Some c) = Some (Cut n c)

-- a number stands before the space, and what is chosen after it
abbrev pub cut_at : List ℕ → Option ℕ → Option Order
cut_at t None = None
cut_at t (Some n) = cut_by (number_of (take n t)) (chosen_of (drop (n + 1) t))

abbrev pub cut_in : List ℕ → Option Order
cut_in t = cut_at t (position (λ c. c == 32) t)

abbrev pub cut_of : List ℕ → Option Order
cut_of t = cond (begins_with (codes "cut ") t) (cut_in (drop 4 t)) None

abbrev pub numbered : List ℕ → Option Order
numbered t =
    option_or (option_map Drives (number_after (codes "drives ") t))
    (option_or (option_map Longest (number_after (codes "longest ") t))
    (option_or (option_map Lose (number_after (codes "lose ") t))
    (option_or (option_map Replace (number_after (codes "replace ") t)) (cut_of t))))

abbrev pub order_of : List ℕ → Option Order
order_of t = cond (is_word t (codes "mend whole")) (Some MendWhole) (cond (is_word t (codes "asked")) (Some Asked) (numbered t))
