-- Whether what is asked is carried out.
-- Assumes nothing.
use Rattle.std.specs.Prelude.{◌-◌, Bool, true, false, cond, ◌==◌}
use Rattle.simdrives.specs.declared.Power.{Power}
use Rattle.simdrives.specs.declared.Power.TheVariants.{On, Fails, Off, NoMemory}

abbrev pub works : Power → Bool
works On = true
works (Fails n) = true
works Off = false
works NoMemory = false

-- what is left of the power once something more is asked
abbrev pub asked_of : Power → Power
asked_of On = On
asked_of (Fails n) = cond (n == 0) Off (Fails (n - 1))
asked_of Off = Off
asked_of NoMemory = NoMemory
