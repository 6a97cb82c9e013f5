-- The code of an echo is the machine to be read.
-- Assumes nothing.
use Rattle.std.specs.Prelude.{ℕ, length, ◌==◌, refl}
use Rattle.std.proofs.Common.{eqb-true}
use Rattle.steps.specs.Ties.{Goes, Tied}
use Rattle.steps.specs.Stacks.{Planned, Plans}
use Rattle.steps.specs.Does.{whether}
use Rattle.steps.proofs.Lents.{unused_ample, placed_ample, sector_placed}
use Rattle.echo.specs.Echoes.{echo_code, echoes, EchoSame}
use Rattle.echo.specs.Twices.{twice_code, twices, TwiceSame}

pub echo_tied : (size : ℕ) → Tied echo_code 4 size echoes (EchoSame size)
echo_tied size =
    record {
      opens = Goes.ends unused_ample;
      does = λ c h m s. Goes.reads (λ got. whether (Goes _ _ _) (length got == 512)
          (λ t. Goes.writes (sector_placed h.lent s 0 got (eqb-true _ _ t)) (Goes.syncs (Goes.ends (refl, placed_ample h.lent s 0 got))))
          (λ t. Goes.ends (refl, s)));
      mends = λ h m s. Goes.ends (refl, s);
    }

pub twice_planned : (size : ℕ) → Planned twice_code 3 size twices (TwiceSame size)
twice_planned size =
    record {
      rises = Plans.ends tt;
      answers = λ c u m s. Plans.calls (λ ok. whether (Plans _ _ _) ok
          (λ t. Plans.calls (λ r. Plans.ends (refl, tt)))
          (λ t. Plans.ends (refl, tt)));
    }
