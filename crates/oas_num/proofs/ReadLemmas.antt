-- One read after another.
use Rattle.std.proofs.Common.{◌≡◌, ℕ, Bool, List, [], ◌++◌, sym, ap, subst, ◌∙◌, append_assoc}
use Rattle.std.proofs.lemmas.List.{append-nil}
use Rattle.oas_num.specs.declared.refusals.Why.{Why}
use Rattle.oas_num.specs.Script.{Script, Consumed}
use Rattle.oas_num.specs.Begun.{HasSome, Begins, Before}
use Rattle.oas_num.specs.Laws.BegunLaws.{Before-begins}
use Rattle.oas_num.specs.Reading.{NoneFits, NoneWithin, FailsBy}
pub use Rattle.oas_bytes.proofs.ScriptLemmas.{Consumed-none, Consumed-then, Consumed-nothing, Consumed-one, since_is, since_then, consumed_since, since_none, consumed_none}

-- nothing more was taken
pub Consumed-still : {old mid new : Script} {bytes : List ℕ} → Consumed old bytes mid → Consumed mid [] new → Consumed old bytes new
Consumed-still {old} {mid} {new} {bytes} takes none = subst (λ (b : List ℕ). Consumed old b new) (append-nil bytes) (Consumed-then old mid new bytes [] takes none)

-- after these bytes each spelling goes on with one of the other kind
pub record Wants {V W : Type 0} (spells : V → List ℕ → Type 0) (front : List ℕ) (next : W → List ℕ → Type 0) : Type 0 where
  pub wants : (v : V) (p r rest : List ℕ) → spells v p → p ++ r ≡ front ++ rest → (w : W) × (q : List ℕ) × (more : List ℕ) × next w q × (q ++ more ≡ rest)

module _ {V W : Type 0} (spells : V → List ℕ → Type 0) (next : W → List ℕ → Type 0) where
  pub NoneFits-after : (front bytes : List ℕ) → Wants spells front next → NoneFits next bytes → NoneFits spells (front ++ bytes)
  NoneFits-after front bytes wants none = record {
    none = λ v p r more s e.
        let w = wants.wants v p r (bytes ++ more) s (e ∙ append_assoc front bytes more) in
        none.none w.0 w.1 w.2 more w.3 w.4;
  }

  pub NoneWithin-after : (front bytes : List ℕ) → Wants spells front next → NoneWithin next bytes → NoneWithin spells (front ++ bytes)
  NoneWithin-after front bytes wants none = record {
    none = λ v p r s e.
        let w = wants.wants v p r bytes s e in
        none.none w.0 w.1 w.2 w.3 w.4;
  }

  -- what fails there fails as a whole
  pub Fails-after : {piece to : Bool} (may there : Why → List ℕ → Type 0) (old mid new : Script) (why : Why) (front : List ℕ)
      → ((last : List ℕ) → there why last → may why last) → Consumed old front mid → Wants spells front next
      → ((a : List ℕ) → Before piece next a → Before to spells (front ++ a)) → FailsBy piece next there mid why new
      → FailsBy to spells may old why new
  Fails-after may there old mid new why front allows takes wants begun f = record {
    bytes = front ++ f.bytes;
    takes = Consumed-then old mid new front f.bytes takes f.takes;
    reason = let r = f.reason in record {
      front = front ++ r.front;
      last = r.last;
      joined = ap (λ (x : List ℕ). front ++ x) r.joined ∙ sym (append_assoc front r.front r.last);
      begun = begun r.front r.begun;
      holds = allows r.last r.holds;
    };
    format = λ is. NoneFits-after front f.bytes wants (f.format is);
    cut = λ is. NoneWithin-after front f.bytes wants (f.cut is);
    truncated = f.truncated;
    device = f.device;
    too_long = f.too_long;
  }

  -- where a spelling of the one makes one of the other, a prefix makes a prefix
  module _ (front : List ℕ) (build : W → V) (makes : (w : W) (q : List ℕ) → next w q → spells (build w) (front ++ q)) where
    pub Begins-after : (a : List ℕ) → Begins next a → Begins spells (front ++ a)
    Begins-after a b = record {
      value = build b.value;
      rest = b.rest;
      spelled = subst (λ (c : List ℕ). spells (build b.value) c) (sym (append_assoc front a b.rest)) (makes b.value (a ++ b.rest) b.spelled);
    }

    pub Before-after : (piece : Bool) → HasSome next → (a : List ℕ) → Before piece next a → Begins spells (front ++ a)
    Before-after piece some a before = Begins-after a (Before-begins piece next some a before)
