-- How a row lies on six drives: eight sectors of each, of which those of any four drives give all back.
-- Assumes nothing.
use Rattle.std.specs.Prelude.{◌≡◌, ◌⊎◌, cond, List, ℕ, ◌<◌, eqb, length, replicate}
use Rattle.std.proofs.Math.Option.{Option, none, some, map}
use Rattle.drives.specs.Drives.{zeros}
use Rattle.crash.specs.Loops.{count}
use Rattle.crash.specs.RefinementBy.{IsSector}
use Rattle.root.specs.Root.{is_there}

-- shard b k i: what sector k of the row b is on drive i. join: the row, of the sectors of four drives. fill: the sector of one drive, of the same sector of four others.
pub record Coding : Type 1 where
  pub Row : Type 0
  pub zero_row : Row
  pub shard : Row → (sector drive : ℕ) → List ℕ
  pub join : (sector : ℕ → (drive : ℕ) → Option (List ℕ)) → Row
  pub fill : ((drive : ℕ) → Option (List ℕ)) → (drive : ℕ) → List ℕ

-- what four of six drives gave
abbrev pub OfFour : ((drive : ℕ) → Option (List ℕ)) → Type 0
OfFour g = count (λ i. is_there (g i)) 6 ≡ 4

-- sector k of the row b, of four drives
pub record Shards (Z : Coding) (b : Z.Row) (k : ℕ) (g : ℕ → Option (List ℕ)) : Type 0 where
  pub each : (i : ℕ) → i < 6 → (g i ≡ none) ⊎ (g i ≡ some (Z.shard b k i))
  pub four : OfFour g

pub record LawfulCoding (Z : Coding) : Type 0 where
  pub zero_shard : (k i : ℕ) → k < 8 → i < 6 → Z.shard Z.zero_row k i ≡ zeros 512
  pub joins : (b : Z.Row) (g : ℕ → ℕ → Option (List ℕ)) → ((k : ℕ) → k < 8 → Shards Z b k (g k)) → Z.join g ≡ b
  pub fills : (b : Z.Row) (k : ℕ) (g : ℕ → Option (List ℕ)) → k < 8 → Shards Z b k g → (i : ℕ) → i < 6 → Z.fill g i ≡ Z.shard b k i
  pub shard_whole : (b : Z.Row) (k i : ℕ) → k < 8 → i < 6 → IsSector (Z.shard b k i)
  pub fill_whole : (g : ℕ → Option (List ℕ)) → OfFour g → ((i : ℕ) (b : List ℕ) → i < 6 → g i ≡ some b → IsSector b) → (i : ℕ) → i < 6 → IsSector (Z.fill g i)

-- What is no whole sector counts as one of zeros. No drive gives such, but code can't know.
abbrev pub sector_of : List ℕ → List ℕ
sector_of b = cond (eqb (length b) 512) b (replicate 512 0)

abbrev pub sectors_of : ((drive : ℕ) → Option (List ℕ)) → (drive : ℕ) → Option (List ℕ)
sectors_of g i = map sector_of (g i)

-- a coding of whole sectors, and no others
abbrev pub sectored : Coding → Coding
sectored Z =
    record {
      Row = Z.Row;
      zero_row = Z.zero_row;
      shard = Z.shard;
      join = λ g. Z.join (λ k. sectors_of (g k));
      fill = λ g i. sector_of (Z.fill (sectors_of g) i);
    }
