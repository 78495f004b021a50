-- One more record.
use Rattle.std.proofs.Common.{◌≡◌, ℕ, Bool, List, [], ◌∷◌, ◌++◌, reverse, Option, None, Some, ◌⊎◌, inl, inr, refl, sym, ap, subst, ◌∙◌}
use Rattle.std.specs.Option.{option_or}
use Rattle.std.specs.Prelude.{Result, Ok, Err}
use Rattle.oas_num.specs.declared.refusals.Why.TheVariants.{Memory}
use Rattle.oas_num.specs.declared.refusals.Refusal.{Refusal}
use Rattle.oas_record.specs.declared.records.Record.{Record}
use Rattle.oas_narrow.specs.Stands.{Represents, ReaderState}
use Rattle.oas_narrow.specs.Stores.{Store}
use Rattle.oas_narrow.specs.WideWhy.{WideWhy}
use Rattle.oas_narrow.specs.WideWhy.TheVariants.{Profile}
use Rattle.oas_narrow.specs.WideRecord.{WideRecord}
use Rattle.oas_narrow.specs.Steps.{translated_by, kept_after}
use Rattle.oas_narrow.specs.Tracked.{Tracked}
use Rattle.oas_narrow.specs.declared.dropping.Report.{Report}
use Rattle.oas_narrow.specs.declared.places.Place.TheVariants.{File}
use Rattle.oas_narrow.specs.declared.places.Rejection.{Rejection}
use Rattle.oas_narrow.specs.declared.roles.Role.{Role}
use Rattle.oas_narrow.specs.Rejections.{refused}
use Rattle.oas_narrow.specs.Narrowing.{is_open, translated_after, listed, narrowed, refused_of, refused_if, translated_obstacle, report_of}
use Rattle.oas_narrow.specs.Placements.{with_turns}
use Rattle.oas_narrow.specs.Roles.{role_of, opens, obstacle_by, extra_of, counted_if}
use Rattle.oas_prepare.specs.Places.{at_file}
use Rattle.oas_prepare.specs.Taking.{State, Stands, IsStop, IsRefused, MayStop, obstacle_next}
use Rattle.oas_prepare.proofs.Narrowed.{narrowed-more, kept-more, open-more, report-more}

module _ {C : Type 0} {t : Store C} {p : State C} {ws : List WideRecord} (s : Stands t p ws) (w : WideRecord) {r : Role} (of : r ≡ role_of w) where
  by_role : obstacle_by p.dropping (is_open (reverse ws)) (role_of w) ≡ obstacle_by p.dropping p.in_cell r
  by_role = ap (λ (b : Bool). obstacle_by p.dropping b (role_of w)) (sym s.in_cell) ∙ ap (λ (q : Role). obstacle_by p.dropping p.in_cell q) (sym of)

  -- it is stopped by what is named, or outside of a cell
  pub role_stops : (at : ℕ) (why : WideWhy) (rejection : Rejection) → obstacle_by p.dropping p.in_cell r ≡ Some why → rejection ≡ at_file at why →
      IsStop at p.reader.limits p.dropping ws w rejection
  role_stops at why rejection some is = subst (IsStop at p.reader.limits p.dropping ws w) (sym is) (record {
    place = refl;
    why = inr (ap (λ (o : Option WideWhy). option_or o (translated_obstacle p.reader.limits (narrowed ws) (translated_after (reverse ws) w))) (by_role ∙ some));
  })

  -- it isn't
  module _ (none : obstacle_by p.dropping p.in_cell r ≡ None) where
    clear : {h : Result (List Record) WideWhy} → translated_by p.resolver (with_turns w) ≡ h →
        (obstacle_next p.reader.limits p.dropping ws w ≡ translated_obstacle p.reader.limits (narrowed ws) h) × (translated_after (reverse ws) w ≡ h)
    clear {h = h} e =
        let same : translated_after (reverse ws) w ≡ h = ap (λ (k : Tracked). translated_by k (with_turns w)) (sym s.resolver) ∙ e in (
          ap (λ (o : Option WideWhy). option_or o (translated_obstacle p.reader.limits (narrowed ws) (translated_after (reverse ws) w))) (by_role ∙ none)
              ∙ ap (translated_obstacle p.reader.limits (narrowed ws)) same,
          same,
        )

    -- it is translated to no records
    pub unresolved : (at : ℕ) (why : WideWhy) (rejection : Rejection) → rejection ≡ at_file at why → (why ≡ Profile Memory) ⊎ (translated_by p.resolver (with_turns w) ≡ Err why) →
        IsStop at p.reader.limits p.dropping ws w rejection
    unresolved at why rejection is h = subst (IsStop at p.reader.limits p.dropping ws w) (sym is) (record { place = refl; why = reason h }) where
      reason : (why ≡ Profile Memory) ⊎ (translated_by p.resolver (with_turns w) ≡ Err why) → MayStop p.reader.limits p.dropping ws w why
      reason (inl m) = inl (m, by_role ∙ none)
      reason (inr e) = inr (clear e).0

    -- it is translated to these
    module _ {rs : List Record} (handed : translated_by p.resolver (with_turns w) ≡ Ok rs) where
      pub resolved_stops : (at : ℕ) (refusal : Refusal) (rejection : Rejection) → rejection ≡ refused refusal → IsRefused at (refused_of p.reader.limits (narrowed ws) rs) refusal →
          IsStop at p.reader.limits p.dropping ws w rejection
      resolved_stops at refusal rejection is h = subst (IsStop at p.reader.limits p.dropping ws w) (sym is) (record { place = ap File h.place; why = reason h.why }) where
        reason : (refusal.why ≡ Memory) ⊎ (refused_of p.reader.limits (narrowed ws) rs ≡ Some refusal.why) → MayStop p.reader.limits p.dropping ws w (Profile refusal.why)
        reason (inl m) = inl (ap Profile m, by_role ∙ none)
        reason (inr some) = inr ((clear handed).0 ∙ ap refused_if some)

      pub resolved_taken : (after : ReaderState C) (kept : Tracked) (in_cell : Bool) (report : Report) → kept ≡ kept_after p.resolver (with_turns w) → in_cell ≡ opens p.in_cell r →
          report ≡ counted_if p.report (extra_of r) → (refused_of p.reader.limits (narrowed ws) rs ≡ None) × Represents t after (narrowed ws ++ rs) →
          (obstacle_next p.reader.limits p.dropping ws w ≡ None) × Stands t (record { reader = after; resolver = kept; in_cell = in_cell; dropping = p.dropping; report = report }) (ws ++ w ∷ [])
      resolved_taken after kept in_cell report is opened counts h = (
        (clear handed).0 ∙ ap refused_if h.0,
        record {
          reader = subst (Represents t after) (sym (narrowed-more ws w ∙ ap (λ (x : Result (List Record) WideWhy). narrowed ws ++ listed x) (clear handed).1)) h.1;
          resolver = is ∙ ap (λ (k : Tracked). kept_after k (with_turns w)) s.resolver ∙ sym (kept-more ws w);
          in_cell = opened ∙ ap (λ (b : Bool). opens b r) s.in_cell ∙ ap (λ (q : Role). opens (is_open (reverse ws)) q) of ∙ sym (open-more ws w);
          report = counts ∙ ap (λ (q : Report). counted_if q (extra_of r)) s.report ∙ ap (λ (q : Role). counted_if (report_of ws) (extra_of q)) of ∙ sym (report-more ws w);
        },
      )
