-- What begins a spelling, and which bytes decided that there is none.
use Rattle.std.specs.Prelude.{◌≡◌, ℕ, Bool, true, false, List, [], ◌++◌}

-- Something is spelled.
pub record HasSome {V : Type 0} (spells : V → List ℕ → Type 0) : Type 0 where
  pub value : V
  pub bytes : List ℕ
  pub spelled : spells value bytes

-- The bytes are a prefix of a spelling.
pub record Begins {V : Type 0} (spells : V → List ℕ → Type 0) (front : List ℕ) : Type 0 where
  pub value : V
  pub rest : List ℕ
  pub spelled : spells value (front ++ rest)

-- What comes before the bytes that decided: nothing, where a value is read as one piece, as a byte or an integer; else a
-- prefix of a spelling.
abbrev pub Before : {V : Type 0} → Bool → (V → List ℕ → Type 0) → List ℕ → Type 0
Before true spells front = front ≡ []
Before false spells front = Begins spells front

-- The bytes end with those that decided, for which that holds.
pub record Decides {V : Type 0} (piece : Bool) (spells : V → List ℕ → Type 0) (P : List ℕ → Type 0) (bytes : List ℕ) : Type 0 where
  pub front : List ℕ
  pub last : List ℕ
  pub joined : bytes ≡ front ++ last
  pub begun : Before piece spells front
  pub holds : P last
