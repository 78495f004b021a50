-- looking back finds what the latest record gave
use Rattle.std.proofs.Common.{◌≡◌, List, [], ◌∷◌, ◌++◌, refl, sym, ap, subst, Bool, true, false, ◌⊎◌, inl, inr}
use Rattle.std.specs.Prelude.{Option, None, Some, cond}
use Rattle.std.specs.Option.{option_or}
use Rattle.oas_record.specs.declared.records.Record.{Record}
use Rattle.oas_drawing.specs.Looking.{is_cell, latest}
use Rattle.oas_drawing.specs.Latest.{Silent, GaveLatest, FindsLatest}

module _ {A : Type 0} where
  met : (b : Bool) (g l : Option A) (x : A) → cond b None (option_or g l) ≡ Some x → (b ≡ false) × ((g ≡ Some x) ⊎ ((g ≡ None) × (l ≡ Some x)))
  met true g l x h = cc
  met false None l x h = (refl, inr (refl, h))
  met false (Some y) l x h = (refl, inl h)

  hit : (b : Bool) (g l : Option A) (x : A) → b ≡ false → g ≡ Some x → cond b None (option_or g l) ≡ Some x
  hit true g l x h e = cc
  hit false None l x h e = cc
  hit false (Some y) l x h e = e

  miss : (b : Bool) (g l : Option A) (x : A) → b ≡ false → g ≡ None → l ≡ Some x → cond b None (option_or g l) ≡ Some x
  miss true g l x h e f = cc
  miss false (Some y) l x h e f = cc
  miss false None l x h e f = f

  pub to_latest : (gives : Record → List Record → Option A) (rs : List Record) (x : A) → latest gives rs ≡ Some x → GaveLatest gives rs x
  to_latest gives [] x h = cc
  to_latest gives (r ∷ rs) x h =
      let m = met (is_cell r) (gives r rs) (latest gives rs) x h in
      elim m.1 [
        | inl g ↦ record { after = []; by = r; before = rs; split = refl; gave = g; no_cell = m.0; silent = tt }
        | inr n ↦
            let t = to_latest gives rs x n.1 in
            record {
              after = r ∷ t.after;
              by = t.by;
              before = t.before;
              split = ap (λ (xs : List Record). r ∷ xs) t.split;
              gave = t.gave;
              no_cell = t.no_cell;
              silent = (m.0, subst (λ (xs : List Record). gives r xs ≡ None) t.split n.0, t.silent);
            }
      ]

  split_latest : (gives : Record → List Record → Option A) (after : List Record) (by : Record) (before : List Record) (x : A)
      → gives by before ≡ Some x → is_cell by ≡ false → Silent gives after (by ∷ before) → latest gives (after ++ by ∷ before) ≡ Some x
  split_latest gives [] by before x g n s = hit (is_cell by) (gives by before) (latest gives before) x n g
  split_latest gives (r ∷ rs) by before x g n s = miss (is_cell r) (gives r (rs ++ by ∷ before)) (latest gives (rs ++ by ∷ before)) x s.0 s.1 (split_latest gives rs by before x g n s.2)

  pub from_latest : (gives : Record → List Record → Option A) (rs : List Record) (x : A) → GaveLatest gives rs x → latest gives rs ≡ Some x
  from_latest gives rs x g = subst (λ (xs : List Record). latest gives xs ≡ Some x) (sym g.split) (split_latest gives g.after g.by g.before x g.gave g.no_cell g.silent)

pub finds_latest : {A : Type 0} → FindsLatest A
finds_latest gives rs x = (to_latest gives rs x, from_latest gives rs x)
