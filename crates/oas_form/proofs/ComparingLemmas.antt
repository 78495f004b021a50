-- A sink that compares: one byte more, and all of an element's bytes.
use Rattle.std.proofs.Common.{◌≡◌, ◌≢◌, ℕ, ◌<◌, ◌⊎◌, Bool, true, false, if◌then◌else◌, List, [], ◌∷◌, ◌++◌, Result, Ok, Err, IsTrue, ◌↔◌, inl, inr, refl, sym, ◌∙◌, append_assoc, append-nil, arith}
use Rattle.std.proofs.lemmas.List.{append_cancel_left}
use Rattle.oas_num.specs.SinkFault.{SinkFault}
use Rattle.oas_num.specs.Writing.{PutsPrefix}
use Rattle.oas_form.specs.Putting.{Counts}
use Rattle.oas_form.specs.declared.comparing.Comparer.{Comparer}
use Rattle.oas_form.specs.Comparing.{Compares}
use Rattle.oas_form.specs.Laws.ComparingLaws.{Compares-none}

-- a byte that isn't the next one left
pub differs : (old : Comparer) (byte : ℕ) → old.differs ≡ false → ((more : List ℕ) → old.rest.now ≢ byte ∷ more) →
    PutsPrefix Compares (λ c. if c.differs then 1 else 0) old (byte ∷ []) (record { rest = old.rest; differs = true })
differs old byte works none = record {
  front = byte ∷ [];
  back = [];
  joined = refl;
  puts = record {
    after = λ start before h. record {
      same = λ e. absurd cc;
      other = λ e. inr (λ more e2. none more (append_cancel_left before old.rest.now (byte ∷ more) (sym (h.same works).1 ∙ e2 ∙ append_assoc before (byte ∷ []) more)));
    };
    no_fewer = rw works (omega arith);
  };
  failed = omega arith;
}

-- ---- all bytes

has_failed : (b : Bool) → 0 < (if b then 1 else 0) → b ≡ true
has_failed true h = refl
has_failed false h = absurd (omega arith)

true_or_false : (b : Bool) → (b ≡ true) ⊎ (b ≡ false)
true_or_false true = inl refl
true_or_false false = inr refl

-- it was given exactly the bytes that it was made of, if and only if it is done
pub spelled : (start end : Comparer) (bytes all : List ℕ) (r : Result ℕ SinkFault) (done : Bool) → start.rest.now ≡ bytes → start.differs ≡ false →
    Counts Compares (λ c. if c.differs then 1 else 0) start all r end → (IsTrue done ↔ ((end.differs ≡ false) × (end.rest.now ≡ []))) → IsTrue done ↔ (all ≡ bytes)
spelled start end bytes all (Ok n) done rest works p h =
    let k : Compares start all end = p.puts.after start [] (Compares-none start) in (
      λ t. let e = h.0 t in let s = k.same e.0 in sym (append-nil all) ∙ (λ i. all ++ sym e.1 i) ∙ sym s.1 ∙ rest,
      λ e. h.1 (by_cases k e (true_or_false end.differs)),
    ) where
      by_cases : Compares start all end → all ≡ bytes → (end.differs ≡ true) ⊎ (end.differs ≡ false) → (end.differs ≡ false) × (end.rest.now ≡ [])
      by_cases k e (inl d) = absurd (other (k.other d)) where
        other : (start.differs ≡ true) ⊎ ((more : List ℕ) → start.rest.now ≢ all ++ more) → ⊥
        other (inl w) = cc
        other (inr none) = none [] (rest ∙ sym e ∙ sym (append-nil all))
      by_cases k e (inr d) = (d, append_cancel_left all end.rest.now [] (sym (k.same d).1 ∙ rest ∙ sym e ∙ sym (append-nil all)))
spelled start end bytes all (Err fault) done rest works p h =
    let k : Compares start p.front end = p.puts.after start [] (Compares-none start) in
    let d : end.differs ≡ true = has_failed end.differs p.failed in
    (λ t. let e = (h.0 t).0 in absurd cc, λ e. absurd (other k e (k.other d))) where
      other : Compares start p.front end → all ≡ bytes → (start.differs ≡ true) ⊎ ((more : List ℕ) → start.rest.now ≢ p.front ++ more) → ⊥
      other k e (inl w) = cc
      other k e (inr none) = none p.back (rest ∙ sym e ∙ p.joined)
