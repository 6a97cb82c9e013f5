-- A lawful coding is lawful still where only whole sectors are taken as they are.
-- Assumes nothing.
use mathlib.Core.Path.{◌≡◌, refl, sym, ◌∙◌, ap, subst, subst⁻¹}
use mathlib.Core.Logic.{inl, inr, ⊎_elim}
use mathlib.Core.Bool.{cond}
use mathlib.Core.Option.{Option, none, some, map}
use mathlib.Core.List.{List}
use Prim.Native.Nat.{ℕ, ◌<◌}
use native.Mathlib.Omega.{arith}
use lib.Dec.{eqb}
use lib.ListN.{length, replicate}
use Rattle.crash.specs.RefinementBy.{IsSector}
use Rattle.crash.proofs.Counts.{count_same}
use Rattle.root.specs.Root.{is_there}
use Rattle.stripes.specs.Coding.{Coding, OfFour, Shards, LawfulCoding, sector_of, sectors_of, sectored}

sector_is : (b : List ℕ) → length b ≡ 512 → sector_of b ≡ b
sector_is b e = ap (λ n. cond (eqb n 512) b (replicate 512 0)) e

map_there : (o : Option (List ℕ)) → is_there (map sector_of o) ≡ is_there o
map_there none = refl
map_there (some b) = refl

four_still : (g : ℕ → Option (List ℕ)) → OfFour g → OfFour (sectors_of g)
four_still g e = count_same _ _ 6 (λ i l. map_there (g i)) ∙ e

map_some : (o : Option (List ℕ)) (b : List ℕ) → map sector_of o ≡ some b → (a : List ℕ) × (o ≡ some a) × (sector_of a ≡ b)
map_some none b e = let z : ◌≡◌ {A = ℕ} 0 1 = cc in absurd (omega arith)
map_some (some a) b e = (a, refl, cc)

module _ (Z : Coding) (cod : LawfulCoding Z) where
  shards_still : (b : Z.Row) (k : ℕ) (g : ℕ → Option (List ℕ)) → k < 8 → Shards (sectored Z) b k g → Shards Z b k (sectors_of g)
  shards_still b k g l h =
      record {
        each = λ i o. ⊎_elim (λ e. inl (ap (map sector_of) e)) (λ e. inr (ap (map sector_of) e ∙ ap some (sector_is (Z.shard b k i) (cod.shard_whole b k i l o).0))) (h.each i o);
        four = four_still g h.four;
      }

  pub sectored_lawful : LawfulCoding (sectored Z)
  sectored_lawful =
      record {
        zero_shard = cod.zero_shard;
        joins = λ b g h. cod.joins b _ (λ k l. shards_still b k (g k) l (h k l));
        fills = λ b k g l h i o. ap sector_of (cod.fills b k (sectors_of g) l (shards_still b k g l h) i o) ∙ sector_is (Z.shard b k i) (cod.shard_whole b k i l o).0;
        shard_whole = cod.shard_whole;
        fill_whole = λ g e h i o. let w = cod.fill_whole (sectors_of g) (four_still g e) (λ j b l q. whole g h j b l q) i o in subst⁻¹ IsSector (sector_is _ w.0) w;
      }
    where
      whole : (g : ℕ → Option (List ℕ)) → ((i : ℕ) (b : List ℕ) → i < 6 → g i ≡ some b → IsSector b) → (i : ℕ) (b : List ℕ) → i < 6 → sectors_of g i ≡ some b → IsSector b
      whole g h i b l e = let (a, p, q) = map_some (g i) b e in let w = h i a l p in subst IsSector (sym (sector_is a w.0) ∙ q) w
