-- The recorder keeps what a register promises: the root record does, and its calls are spelled as a register's.
-- Assumes nothing.
use Rattle.std.proofs.Common.{◌≡◌, ℕ, sym, refl, ap, ◌∙◌}
use mathlib.Core.Path.{subst⁻¹}
use Rattle.drives.specs.Machines.{Judge, DoneOrNot, Keeps, Within}
use Rattle.drives.specs.Layers.{Comes, CutShort, KeepsAbove}
use Rattle.drives.specs.Simulation.{Holds}
use Rattle.drives.proofs.Layers.{layers_compose}
use Rattle.drives.proofs.Within.{layers_stay_within}
use Rattle.drives.proofs.Simulation.{keeps_above}
use Rattle.register.specs.declared.Payload.{Payload}
use Rattle.register.specs.declared.Call.{Call}
use Rattle.register.specs.declared.Call.TheVariants.{Set, Get}
use Rattle.register.specs.declared.Reply.{Reply}
use Rattle.register.specs.Register.{register, Answers, sets, gets}
use Rattle.root.specs.Root as root
use Rattle.labels.specs.Times.{Time, timed}
use Rattle.labels.proofs.Lawful.{labels_stand}
use Rattle.steps.proofs.Mirror.{code_keeps, code_within}
use Rattle.recorder.specs.Recording.{call_for, reply_as, spelling, recorded, RecorderSame, RecorderStands}
use Rattle.recorder.specs.Tied.{recorder_tied}

-- a time stands for the payload that has it
abbrev has : Time → Payload
has t = record { time = t.ms }

abbrev Off : Time → Payload → Type 0
Off s a = a ≡ has s

abbrev On : Unit {0} → Time → Payload → Type 0
On m s a = a ≡ has s

module _ (size : ℕ) where
  abbrev below : Judge (root.Call Time) (root.Reply Time)
  below = root.judge timed size

  -- a reply of the root record, spelled, is one of the register
  answered : (c : Call) {r : root.Reply Time} {s t : Time} → root.Answers (call_for c) s r t → Answers c (has s) (reply_as r) (has t)
  answered (Set p) (root.sets v s) = sets p (has s)
  answered Get (root.gets s) = gets (has s)

  call : (c : Call) {x : record { reply : Reply; mem : Unit {0} }} {s t : Time} {m : Unit {0}} {a : Payload} →
      On m s a → Comes below (spelling.answers c m) s x t → (b : Payload) × Answers c a x.reply b × On x.mem t b
  call c {x} {s} {t} {m} {a} e (Comes.goes_on q Comes.ends) = (has t, subst⁻¹ (λ b. Answers c b x.reply (has t)) e (answered c q), refl)

  -- a cut leaves what was there
  still : {s u : Time} {a : Payload} → a ≡ has s → u ≡ s → (b : Payload) × (b ≡ a) × Off u b
  still {s} {u} {a} e f = (a, refl, e ∙ ap has (sym f))

  not_done : (c : Call) {s u : Time} {a : Payload} → a ≡ has s → u ≡ s → (b : Payload) × (register size).Cut c a b × Off u b
  not_done c {s} {u} {a} e f = (a, DoneOrNot.undone refl, e ∙ ap has (sym f))

  was_done : (c : Call) {r : root.Reply Time} {s t u : Time} {a : Payload} → a ≡ has s → root.Answers (call_for c) s r t → u ≡ t → (b : Payload) × (register size).Cut c a b × Off u b
  was_done c {r} {s} {t} {u} {a} e q f = (has t, DoneOrNot.done (subst⁻¹ (λ b. Answers c b (reply_as r) (has t)) e (answered c q)) refl, ap has (sym f))

  call_cut : (c : Call) {s u : Time} {m : Unit {0}} {a : Payload} → On m s a → CutShort below (spelling.answers c m) s u → (b : Payload) × (register size).Cut c a b × Off u b
  call_cut c e (CutShort.at_once f) = not_done c e f
  call_cut c e (CutShort.in_call (DoneOrNot.undone f)) = not_done c e f
  call_cut c e (CutShort.in_call (DoneOrNot.done q f)) = was_done c e q f
  call_cut c e (CutShort.later q (CutShort.at_once f)) = was_done c e q f

  rises : {s t : Time} {m : Unit {0}} {a : Payload} → Off s a → Comes below (spelling.comes_up size) s m t → On m t a
  rises e Comes.ends = e

  rise_cut : {s u : Time} {a : Payload} → Off s a → CutShort below (spelling.comes_up size) s u → (b : Payload) × (b ≡ a) × Off u b
  rise_cut e (CutShort.at_once f) = still e f

  spelled : Holds below (register size) spelling size Off On
  spelled = record { begins = refl; rises = rises; rise_cut = rise_cut; call = call; call_cut = call_cut; falls = still }

-- THE RECORDER STANDS

pub recorded_keeps : Keeps register recorded
recorded_keeps =
    let k : KeepsAbove (root.judge timed) register spelling = keeps_above {Off = λ size. Off} {On = λ size. On} (λ size lo hi. spelled size) in
    layers_compose (root.Call Time) (root.Reply Time) Call Reply (root.judge timed) register (root.machine timed) spelling labels_stand.1.0 k

pub recorded_within : Within recorded
recorded_within = layers_stay_within (root.Call Time) (root.Reply Time) Call Reply (root.machine timed) spelling labels_stand.1.1

pub recorder_stands : RecorderStands
recorder_stands n h =
    (code_keeps {S = RecorderSame} (λ size lo hi. recorder_tied size) register recorded_keeps n h, code_within {S = RecorderSame} (λ size lo hi. recorder_tied size) recorded_within n h)
