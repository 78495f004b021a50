-- What is made of spellings has a spelling if its parts have.
use Rattle.std.proofs.Common.{ℕ, zero, suc, Bool, true, false, List, [], ◌∷◌, ◌++◌, ◌<◌, Some, None, refl, sym, ap, subst, arith}
use Rattle.oas_num.specs.Grammar.{IsPair, IsSuch, IsImage, IsThere, IsEach, IsCount, IsByte}
use Rattle.oas_num.specs.Combinators.{IsExactly, IsEither, IsKeyed, IsWithin}
use Rattle.oas_num.specs.Begun.{HasSome, Begins, Before}

-- a byte spells itself
pub byte_itself : (b : ℕ) → b < 256 → IsByte b (b ∷ [])
byte_itself b small = record { only = refl; small = small }

pub HasSome-byte : HasSome IsByte
HasSome-byte = record { value = 0; bytes = 0 ∷ []; spelled = byte_itself 0 (omega arith) }

pub HasSome-exactly : (wanted : List ℕ) → HasSome (IsExactly wanted)
HasSome-exactly wanted = record { value = tt; bytes = wanted; spelled = refl }

-- the second kind is needed only for a value that the first is known to have
pub HasSome-pair : {V W : Type 0} (A : V → List ℕ → Type 0) (B : V → W → List ℕ → Type 0) (some : HasSome A) → HasSome (B some.value) → HasSome (IsPair A B)
HasSome-pair A B some more = record {
  value = (some.value, more.value);
  bytes = some.bytes ++ more.bytes;
  spelled = record { front = some.bytes; back = more.bytes; first = some.spelled; second = more.spelled; joined = refl };
}

pub HasSome-such : {V : Type 0} (P : V → Type 0) (A : V → List ℕ → Type 0) (v : V) (bytes : List ℕ) → A v bytes → P v → HasSome (IsSuch P A)
HasSome-such P A v bytes spelled holds = record { value = v; bytes = bytes; spelled = record { holds = holds; spelled = spelled } }

pub HasSome-image : {U V : Type 0} (f : U → V) (A : U → List ℕ → Type 0) → HasSome A → HasSome (IsImage f A)
HasSome-image f A some = record { value = f some.value; bytes = some.bytes; spelled = record { from = some.value; is = refl; spelled = some.spelled } }

pub HasSome-there : {V : Type 0} (here : Bool) (A : V → List ℕ → Type 0) → HasSome A → HasSome (IsThere here A)
HasSome-there true A some = record { value = Some some.value; bytes = some.bytes; spelled = some.spelled }
HasSome-there false A some = record { value = None; bytes = []; spelled = refl }

pub HasSome-each : {V : Type 0} (A : V → List ℕ → Type 0) → HasSome (IsEach A)
HasSome-each A = record { value = []; bytes = []; spelled = refl }

pub HasSome-count : {V : Type 0} (A : V → List ℕ → Type 0) (count : ℕ) → HasSome A → HasSome (IsCount A count)
HasSome-count A zero some = record { value = []; bytes = []; spelled = record { len = refl; each = refl } }
HasSome-count A (suc count) some =
    let more = HasSome-count A count some in
    record {
      value = some.value ∷ more.value;
      bytes = some.bytes ++ more.bytes;
      spelled = record { len = ap suc more.spelled.len; each = (some.bytes, more.bytes, some.spelled, more.spelled.each, refl) };
    }

pub HasSome-either : {V : Type 0} (test : Bool) (A B : V → List ℕ → Type 0) → HasSome A → HasSome B → HasSome (IsEither test A B)
HasSome-either true A B some other = record { value = some.value; bytes = some.bytes; spelled = some.spelled }
HasSome-either false A B some other = record { value = other.value; bytes = other.bytes; spelled = other.spelled }

-- the key of one value is spelled, and then the value
pub HasSome-keyed : {K V : Type 0} (key : V → K) (A : K → List ℕ → Type 0) (B : K → V → List ℕ → Type 0) (v : V) (a b : List ℕ) → A (key v) a → B (key v) v b → HasSome (IsKeyed key A B)
HasSome-keyed key A B v a b first second = record {
  value = v;
  bytes = a ++ b;
  spelled = record { front = a; back = b; first = first; second = second; joined = refl };
}

pub HasSome-within : {V : Type 0} (A B : V → List ℕ → Type 0) → IsWithin A B → HasSome A → HasSome B
HasSome-within A B f some = record { value = some.value; bytes = some.bytes; spelled = f.within some.value some.bytes some.spelled }

-- the parts of a pair whose second part doesn't depend on the first
pub HasSome-first : {V W : Type 0} (A : V → List ℕ → Type 0) (B : V → W → List ℕ → Type 0) → HasSome (IsPair A B) → HasSome A
HasSome-first A B some = record { value = some.value.0; bytes = some.spelled.front; spelled = some.spelled.first }

pub HasSome-second_of : {V W : Type 0} (A : V → List ℕ → Type 0) (B : W → List ℕ → Type 0) → HasSome (IsPair A (λ (v : V). B)) → HasSome B
HasSome-second_of A B some = record { value = some.value.1; bytes = some.spelled.back; spelled = some.spelled.second }

-- ---- what begins

-- no bytes are a prefix of any spelling
pub Begins-none : {V : Type 0} (A : V → List ℕ → Type 0) → HasSome A → Begins A []
Begins-none A some = record { value = some.value; rest = some.bytes; spelled = some.spelled }

pub Before-begins : {V : Type 0} (piece : Bool) (A : V → List ℕ → Type 0) → HasSome A → (a : List ℕ) → Before piece A a → Begins A a
Before-begins true A some a none = record { value = some.value; rest = some.bytes; spelled = subst (λ (c : List ℕ). A some.value (c ++ some.bytes)) (sym none) some.spelled }
Before-begins false A some a begun = begun

pub Before-as : {V W : Type 0} (piece : Bool) (A : V → List ℕ → Type 0) (B : W → List ℕ → Type 0) → ((a : List ℕ) → Begins A a → Begins B a) → (a : List ℕ) → Before piece A a → Before piece B a
Before-as true A B f a none = none
Before-as false A B f a begun = f a begun
