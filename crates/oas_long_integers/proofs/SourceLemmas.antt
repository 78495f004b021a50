-- What is given for a byte that the source below returns, and where the source is then.
use Rattle.std.proofs.Common.{◌≡◌, ℕ, ◌+◌, ◌^◌, ◌≤◌, ◌<◌, List, [], ◌∷◌, ◌++◌, length, Option, Some, None, Result, Ok, Err, IfSome, ◌⊎◌, inl, inr, refl, sym, ap, subst, ◌∙◌, append_assoc, arith}
use Rattle.std.proofs.lemmas.List.{append-nil}
use base.Fml.{GName}
use Rattle.oas_bytes.specs.declared.sources.SourceFault.{SourceFault}
use Rattle.oas_bytes.specs.declared.sources.SourceFault.TheVariants.{Device, TooLong}
use Rattle.oas_bytes.specs.declared.readers.Ending.{Ending}
use Rattle.oas_bytes.specs.declared.readers.Ending.TheVariants as ending_of
use Rattle.oas_bytes.specs.Script.{Script, Rest, Gave, since, Consumed, Next}
use Rattle.oas_long_integers.specs.declared.places.Place.{Place}
use Rattle.oas_long_integers.specs.Places.{given_by, moved, put, shortened, after}
use Rattle.oas_long_integers.specs.Shortening.{short_rest, short_settled, short_script, IsEnding, IsShortened, Silent, Steps, Counts}
use Rattle.oas_long_integers.specs.Laws.PlaceLaws.{shortened-append, after-append}
use Rattle.oas_bytes.proofs.ScriptLemmas.{Consumed-none, Consumed-then, since_then, consumed_since, since_none, consumed_none}

-- ---- the bytes that were taken

-- where the source is after more bytes
stands_then : {start : Script} {name : GName} {first : Place} {same : GName} {s t : Script} {place : Place} {kept : ℕ} {ending : Ending}
    (xs : List ℕ) (now : Place) (more : ℕ) (then : Ending) → IsShortened start name first same s place kept ending → Consumed s xs t → now ≡ after place xs → more ≤ length xs → IsEnding then t
    → IsShortened start name first same t now (kept + more) then
stands_then {start} {name} {first} {same} {s} {t} {place} {kept} {ending} xs now more then f k is few h =
    record {
      same_source = f.same_source;
      takes = consumed_since start f.takes k;
      stands = is ∙ ap (λ (p : Place). after p xs) f.stands ∙ sym (after-append first (since start s) xs) ∙ ap (after first) (sym (since_then start f.takes k));
      fewer = omega (arith, f.fewer, k.given);
      ended = h;
    }

-- nothing was taken yet
pub stands_first : {start now : Script} {name same : GName} {first place : Place} → same ≡ name → now ≡ start → place ≡ first → IsShortened start name first same now place 0 ending_of.Open
stands_first {start} {now} {name} {same} {first} {place} e f is =
    subst (λ (s : Script). IsShortened start name first same s place 0 ending_of.Open) (sym f) (record {
      same_source = e;
      takes = consumed_none start;
      stands = is ∙ ap (after first) (sym (since_none start));
      fewer = omega arith;
      ended = tt;
    })

-- ---- what is given

gave_short : (place : Place) (s t : Option Rest) (xs : List ℕ) (ys : List ℕ) → ((zs : List ℕ) → shortened place (xs ++ zs) ≡ ys ++ shortened (after place xs) zs)
    → Gave s xs t → Gave (short_rest place s) ys (short_rest (after place xs) t)
gave_short place None t xs ys h g = tt
gave_short place (Some s) None xs ys h g = absurd g
gave_short place (Some s) (Some t) xs ys h g = (ap (shortened place) g.0 ∙ h t.bytes, refl)

-- a source that gives a byte has not ended
abbrev Answered : Result (Option ℕ) SourceFault → Option (Result (Option ℕ) SourceFault) → Type 0
Answered answer settled = IfSome settled (λ a. answer ≡ a)

unended : (ending : Ending) {s t : Script} (byte : ℕ) → IsEnding ending s → Next s (Ok (Some byte)) t → ending ≡ ending_of.Open
unended ending_of.Open byte h n = refl
unended ending_of.Ended byte h n = let e : Ok (Some byte) ≡ Ok None = subst (Answered (Ok (Some byte))) h.settled n.again in absurd cc
unended ending_of.Failed byte h n = let e : Ok (Some byte) ≡ Err Device = subst (Answered (Ok (Some byte))) h.settled n.again in absurd cc
unended ending_of.TooLong byte h n = let e : Ok (Some byte) ≡ Err TooLong = subst (Answered (Ok (Some byte))) h.settled n.again in absurd cc

-- after a byte
pub stands_more : {start : Script} {name : GName} {first : Place} {same : GName} {s t : Script} {place : Place} {kept : ℕ} {ending : Ending}
    (byte : ℕ) (answer : Option ℕ) (now : Place) (more all : ℕ) → answer ≡ Some byte → IsShortened start name first same s place kept ending → Next s (Ok answer) t → now ≡ moved place byte
    → more ≤ 1 → all ≡ kept + more → IsShortened start name first same t now all ending
stands_more {start} {name} {first} {same} {s} {t} {place} {kept} {ending} byte answer now more all e f n is few sum =
    let m = subst (λ (a : Option ℕ). Next s (Ok a) t) e n in
    let none = unended ending byte f.ended m in
    subst (λ (m : ℕ). IsShortened start name first same t now m ending) (sym sum)
    (stands_then (byte ∷ []) now more ending f m.answers.1 is few (subst (λ (x : Ending). IsEnding x t) (sym none) tt))

-- after none
pub stands_ended : {start : Script} {name : GName} {first : Place} {same : GName} {s t : Script} {place : Place} {kept : ℕ} {ending : Ending}
    (then : Ending) → IsShortened start name first same s place kept ending → Consumed s [] t → IsEnding then t → IsShortened start name first same t place kept then
stands_ended {start} {name} {first} {same} {s} {t} {place} {kept} {ending} then f k h =
    subst (λ (m : ℕ). IsShortened start name first same t place m then) (omega arith) (stands_then [] place 0 then f k refl (omega arith) h)

module _ {start : Script} {name : GName} {first : Place} {same : GName} {s t : Script} {place : Place} {kept : ℕ} {ending : Ending} (f : IsShortened start name first same s place kept ending) where
  short_takes : (xs ys : List ℕ) (more : ℕ) (then : Ending) → ((zs : List ℕ) → shortened place (xs ++ zs) ≡ ys ++ shortened (after place xs) zs) → length ys + more ≡ length xs → Consumed s xs t
      → Consumed (short_script start first s place kept ending) ys (short_script start first t (after place xs) (kept + more) then)
  short_takes xs ys more then gives count k = record {
    history = ap (λ (x : List ℕ). start.history ++ x) (ap (shortened first) (since_then start f.takes k) ∙ shortened-append first (since start s) xs
        ∙ ap (λ (p : Place). shortened first (since start s) ++ shortened p xs) (sym f.stands) ∙ ap (λ (x : List ℕ). shortened first (since start s) ++ x) all)
        ∙ sym (append_assoc start.history (shortened first (since start s)) ys);
    given = omega (arith, f.fewer, count, k.given);
    limit = k.limit;
    reliable = refl;
    failures = omega (arith, k.failures);
    rest = gave_short place s.rest t.rest xs ys gives k.rest;
  } where
    all : shortened place xs ≡ ys
    all = ap (shortened place) (sym (append-nil xs)) ∙ gives [] ∙ append-nil ys

  none_settled : (byte : ℕ) → Next s (Ok (Some byte)) t → (short_script start first s place kept ending).settled ≡ None
  none_settled byte n = ap short_settled (unended ending byte f.ended n)

  pub gives : (byte given : ℕ) → given_by place byte ≡ Some given → given < 256
      → Next s (Ok (Some byte)) t → Next (short_script start first s place kept ending) (Ok (Some given)) (short_script start first t (moved place byte) (kept + 0) ending)
  gives byte given is small n = record {
    again = subst (Answered (Ok (Some given))) (sym (none_settled byte n)) tt;
    within = omega (arith, n.within);
    answers = (small, short_takes (byte ∷ []) (given ∷ []) 0 ending (λ zs. ap (λ (g : Option ℕ). put g (shortened (moved place byte) zs)) is) refl n.answers.1);
  }

  pub keeps : (byte : ℕ) → given_by place byte ≡ None → Next s (Ok (Some byte)) t
      → Silent (short_script start first s place kept ending) (short_script start first t (moved place byte) (kept + 1) ending)
  keeps byte is n = record {
    unsettled = none_settled byte n;
    takes = short_takes (byte ∷ []) [] 1 ending (λ zs. ap (λ (g : Option ℕ). put g (shortened (moved place byte) zs)) is) refl n.answers.1;
  }

-- ---- byte by byte

none_then : {old mid new : Script} (bytes : List ℕ) → Consumed old [] mid → Consumed mid bytes new → Consumed old bytes new
none_then {old} {mid} {new} bytes p q = Consumed-then old mid new [] bytes p q

-- bytes were taken for which nothing is given
pub record Quiet (old now : Script) : Type 0 where
  pub takes : Consumed old [] now
  pub same : (old.settled ≡ None) ⊎ (old.settled ≡ now.settled)

pub quiet_first : (s : Script) → Quiet s s
quiet_first s = record { takes = Consumed-none s; same = inr refl }

pub quiet_on : {old now new : Script} → Quiet old now → Silent now new → Quiet old new
quiet_on {old} {now} {new} q s = record {
  takes = none_then [] q.takes s.takes;
  same = elim q.same [ inl none ↦ inl none | inr is ↦ inl (is ∙ s.unsettled) ];
}

quiet_again : {old now new : Script} (answer : Result (Option ℕ) SourceFault) → Quiet old now → Next now answer new → IfSome old.settled (λ settled. answer ≡ settled)
quiet_again answer q n = elim q.same [
  | inl none ↦ subst (λ (a : Option (Result (Option ℕ) SourceFault)). IfSome a (λ settled. answer ≡ settled)) (sym none) tt
  | inr is ↦ subst (λ (a : Option (Result (Option ℕ) SourceFault)). IfSome a (λ settled. answer ≡ settled)) (sym is) n.again
]

pub quiet_gives : {old now new : Script} (byte : ℕ) → Quiet old now → Next now (Ok (Some byte)) new → Next old (Ok (Some byte)) new
quiet_gives byte q n = record { again = quiet_again (Ok (Some byte)) q n; within = n.within; answers = (n.answers.0, none_then (byte ∷ []) q.takes n.answers.1) }

pub quiet_ends : {old now new : Script} → Quiet old now → Next now (Ok None) new → Next old (Ok None) new
quiet_ends q n = record { again = quiet_again (Ok None) q n; within = n.within; answers = (none_then [] q.takes n.answers.0, n.answers.1) }

pub quiet_fails : {old now new : Script} (fault : SourceFault) → Quiet old now → Next now (Err fault) new → Next old (Err fault) new
quiet_fails Device q n = record { again = quiet_again (Err Device) q n; within = n.within; answers = (none_then [] q.takes n.answers.0, n.answers.1) }
quiet_fails TooLong q n = record { again = quiet_again (Err TooLong) q n; within = n.within; answers = (none_then [] q.takes n.answers.0, n.answers.1) }

-- the result of a byte
pub one_more : (old new : ℕ) {a : Option (Option ℕ)} {b : Option ℕ} → a ≡ Some b → b ≡ None → Counts old (Ok a) new → (new ≡ old + 1) × (new < 2 ^ 64)
one_more old new e f h = subst (λ (x : Option ℕ). Counts old (Ok (Some x)) new) f (subst (λ (x : Option (Option ℕ)). Counts old (Ok x) new) e h)

pub kept_back : (old new : Script) {a : Option (Option ℕ)} {b : Option ℕ} → a ≡ Some b → b ≡ None → Steps old (Ok a) new → Silent old new
kept_back old new e f h = subst (λ (x : Option ℕ). Steps old (Ok (Some x)) new) f (subst (λ (x : Option (Option ℕ)). Steps old (Ok x) new) e h)

pub was_given : (old new : Script) {a : Option (Option ℕ)} {b : Option ℕ} {byte : ℕ} → a ≡ Some b → b ≡ Some byte → Steps old (Ok a) new → Next old (Ok (Some byte)) new
was_given old new e f h = subst (λ (x : Option ℕ). Steps old (Ok (Some x)) new) f (subst (λ (x : Option (Option ℕ)). Steps old (Ok x) new) e h)

pub none_given : (old new : Script) {a : Option (Option ℕ)} → a ≡ None → Steps old (Ok a) new → Next old (Ok None) new
none_given old new e h = subst (λ (x : Option (Option ℕ)). Steps old (Ok x) new) e h
