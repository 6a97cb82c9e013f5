-- A layer that copies a sector, and then another where that could be done: what its code does, and the same to be read.
-- Assumes nothing.
use Rattle.std.specs.Prelude.{ℕ, Bool, false, cond, Some, None, unwrap_or}
use Rattle.drives.specs.Layers.{Layer, gives, asks}
use Rattle.steps.specs.Stacks.{Asked, Planning}
use Rattle.echo.specs.declared.Twice.{Twice}
use Rattle.echo.specs.declared.Twice.TheVariants.{Begun, First, Second, Over}

abbrev pub turn_in : Twice → Bool → Asked Twice ℕ
turn_in (Begun s) ok = record { me = First; next = Some s }
turn_in First ok = cond ok (record { me = Second; next = Some 7 }) (record { me = Over false; next = None })
turn_in Second ok = record { me = Over ok; next = None }
turn_in (Over was) ok = record { me = Over was; next = None }

abbrev pub said_in : Twice → Bool
said_in (Over ok) = ok
said_in t = false

abbrev pub twice_code : Planning ℕ Bool ℕ Bool Twice
twice_code = record { turns = λ t r. turn_in t (unwrap_or r false); rising = λ size. Over false; starts = λ c t. Begun c; says = said_in }

-- THE LAYER, to be read
abbrev pub twices : Layer ℕ Bool ℕ Bool
twices =
    record {
      Mem = Unit {0};
      comes_up = λ size. gives tt;
      answers = λ s m. asks s (λ ok. cond ok (asks 7 (λ ok. gives (record { reply = ok; mem = tt }))) (gives (record { reply = false; mem = tt })));
    }

abbrev pub TwiceSame : ℕ → Twice → Unit {0} → Type 0
TwiceSame size t m = Unit {0}
