-- What there is: rooms, objects, versions, uploads, rules; the calls and the replies.
-- Assumes nothing.
use Rattle.std.specs.Prelude.{ℕ, Bool, List, []}
use Rattle.meaning.specs.Lists.{Name}

pub data Body : Type 0 where
  Bytes : List ℕ → Body
  Removed : Body

-- num: given once, 0 for what a rule put there; at: when it came; held: until when it may not go, 0 for not at all
pub record Version : Type 0 where
  pub num : ℕ
  pub body : Body
  pub at : ℕ
  pub held : ℕ

-- the latest version first
pub record Object : Type 0 where
  pub key : Name
  pub versions : List Version

pub record Part : Type 0 where
  pub place : ℕ
  pub bytes : List ℕ

pub record Upload : Type 0 where
  pub num : ℕ
  pub key : Name
  pub parts : List Part

-- what begins so: the latest goes after that many ms, an older one after that many since the next came; 0 for never
pub record Rule : Type 0 where
  pub prefix : Name
  pub lasts : ℕ
  pub old_lasts : ℕ

-- keeps: older versions stay
pub record Room : Type 0 where
  pub name : Name
  pub keeps : Bool
  pub rules : List Rule
  pub objects : List Object
  pub uploads : List Upload

pub record State : Type 0 where
  pub now : ℕ
  pub next : ℕ
  pub rooms : List Room

abbrev pub blank : State
blank = record { now = 0; next = 1; rooms = [] }

pub data Expect : Type 0 where
  Any Absent : Expect
  Is : (num : ℕ) → Expect

pub data Call : Type 0 where
  MakeRoom : Name → (keeps : Bool) → Call
  DropRoom : Name → Call
  Put : (room key : Name) → List ℕ → Expect → Call
  -- num 0: the latest
  Get : (room key : Name) → (num from most : ℕ) → Call
  Remove : (room key : Name) → (num : ℕ) → Call
  Look : (room prefix after : Name) → (most : ℕ) → Call
  Versions : (room key : Name) → Call
  Begin : (room key : Name) → Call
  PutPart : (room : Name) → (upload place : ℕ) → List ℕ → Call
  Complete : (room : Name) → (upload : ℕ) → Expect → Call
  Abort : (room : Name) → (upload : ℕ) → Call
  Hold : (room key : Name) → (num until : ℕ) → Call
  SetRules : (room : Name) → List Rule → Call
  Tick : (ms : ℕ) → Call

pub record Shown : Type 0 where
  pub key : Name
  pub num : ℕ
  pub size : ℕ

pub data Reply : Type 0 where
  No : ℕ → Reply
  Yes : Reply
  Num : ℕ → Reply
  -- the version, its whole length, and the bytes asked for
  Got : (num size : ℕ) → List ℕ → Reply
  List' : List Shown → Reply
  Full : Reply

pub record Out : Type 0 where
  pub reply : Reply
  pub state : State
