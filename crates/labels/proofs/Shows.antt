-- What a sector shows is what its tests say: a sector is a label only if it is what that label is written as.
-- Assumes nothing.
use Rattle.std.proofs.Common.{◌≡◌, ℕ, ◌<◌, List, [], ◌∷◌, length, sym, refl, ap, ◌∙◌, inl, inr, mod-eq_of_lt, arith}
use Rattle.std.specs.Prelude.{None, Some}
use mathlib.Core.Option.{Option, none, some}
use Rattle.drives.specs.Drives.{zeros}
use Rattle.root.specs.Root.{Label, missing, blank, rebuilding, has, empty, committed, record_of, is_there, trusted}
use Rattle.root.specs.Labels.{sector, encode}
use Rattle.labels.specs.Times.{Time, time_of, number, payload_of, timed, label_of, label_in, label_bytes, trusts}
use Rattle.register.specs.declared.Payload.{Payload}
use Rattle.labels.specs.declared.Label.TheVariants.{Committed}
use Rattle.labels.proofs.Lawful.{number_is, timed_lawful}

-- what is written of a label shows that label
pub shows : (b : List ℕ) (l : Label Time) → b ≡ timed.encode l → label_in b ≡ label_of (some l)
shows b l e = ap label_of (ap timed.decode e ∙ timed_lawful.there l)

payload_none : payload_of 0 ≡ zeros 480
unfolding zeros
payload_none = refl

pub shows_blank : (b : List ℕ) → b ≡ zeros 512 → label_in b ≡ label_of (some blank)
unfolding encode
shows_blank b h = shows b blank h

pub shows_rebuilding : (b : List ℕ) → b ≡ sector 3 (payload_of 0) → label_in b ≡ label_of (some rebuilding)
unfolding encode
shows_rebuilding b h = shows b rebuilding (h ∙ ap (sector 3) payload_none)

pub shows_empty : (b : List ℕ) → b ≡ sector 1 (payload_of 0) → label_in b ≡ label_of (some (has empty))
unfolding encode
shows_empty b h = shows b (has empty) (h ∙ ap (sector 1) payload_none)

pub shows_committed : (b : List ℕ) (n : ℕ) → n < 18446744073709551616 → b ≡ sector 2 (payload_of n) → label_in b ≡ Committed (record { time = n })
unfolding encode
shows_committed b n l h = shows b (has (committed (time_of n))) (h ∙ ap (λ m. sector 2 (payload_of m)) (sym (mod-eq_of_lt l))) ∙ ap (λ m. Committed (record { time = m })) (mod-eq_of_lt l)

-- what is written of a record
pub written_empty : sector 1 (payload_of 0) ≡ label_bytes None
unfolding encode
written_empty = ap (sector 1) payload_none

pub written_committed : (p : Payload) → p.time < 18446744073709551616 → sector 2 (payload_of p.time) ≡ label_bytes (Some p)
unfolding encode
written_committed p l = ap (λ m. sector 2 (payload_of m)) (sym (mod-eq_of_lt l))

-- the time stands in the sector where it is looked for
number_at : (t : Time) → number 16 (sector 2 (payload_of t.ms)) ≡ number 0 (payload_of t.ms)
unfolding sector zeros
number_at t = refl

-- what no label is written as shows none
pub shows_none : (b : List ℕ) → ((l : Label Time) → timed.encode l ≡ b → ⊥) → label_in b ≡ label_of none
shows_none b h = go (timed.decode b) refl
  where
    go : (o : Option (Label Time)) → timed.decode b ≡ o → label_of o ≡ label_of none
    go none e = refl
    go (some l) e = absurd (h l (timed_lawful.back b l e))

pub shows_missing : (b : List ℕ) → length b ≡ 0 → label_in b ≡ label_of (some missing)
unfolding encode
shows_missing b h = shows b missing (no_bytes b h)
  where
    no_bytes : (c : List ℕ) → length c ≡ 0 → c ≡ []
    no_bytes [] e = refl
    no_bytes (x ∷ xs) e = absurd (omega arith)

-- a sector has 512 bytes
pub shows_odd : (b : List ℕ) → (length b ≡ 0 → ⊥) → (length b ≡ 512 → ⊥) → label_in b ≡ label_of none
unfolding encode
shows_odd b k h = shows_none b (λ l e. elim (timed_lawful.whole l) [ inl m ↦ k (ap length (sym (sym (ap timed.encode m) ∙ e))) | inr m ↦ h (ap length (sym e) ∙ m) ])

pub shows_foreign :
    (b : List ℕ) (n : ℕ) →
    n ≡ number 16 b →
    (length b ≡ 0 → ⊥) →
    (b ≡ zeros 512 → ⊥) →
    (b ≡ sector 3 (payload_of 0) → ⊥) →
    (b ≡ sector 1 (payload_of 0) → ⊥) →
    (b ≡ sector 2 (payload_of n) → ⊥) →
    label_in b ≡ label_of none
unfolding encode
shows_foreign b n i k h₁ h₂ h₃ h₄ = shows_none b no
  where
    no : (l : Label Time) → timed.encode l ≡ b → ⊥
    no missing e = k (ap length (sym e))
    no blank e = h₁ (sym e)
    no rebuilding e = h₂ (sym (ap (sector 3) payload_none ∙ e))
    no (has empty) e = h₃ (sym (ap (sector 1) payload_none ∙ e))
    no (has (committed t)) e =
        let j : t.ms ≡ n = sym (i ∙ ap (number 16) (sym e) ∙ number_at t ∙ number_is t) in
        h₄ (sym (ap (λ m. sector 2 (payload_of m)) (sym j) ∙ e))

trust_of : (o : Option (Label Time)) → trusts (label_of o) ≡ is_there (record_of o)
trust_of none = refl
trust_of (some missing) = refl
trust_of (some blank) = refl
trust_of (some rebuilding) = refl
trust_of (some (has empty)) = refl
trust_of (some (has (committed t))) = refl

-- the code trusts the drives that the machine trusts
pub trust_is : (b : List ℕ) → trusts (label_in b) ≡ trusted timed b
trust_is b = trust_of (timed.decode b)
