use Rattle.std.proofs.Common.{◌≡◌, ◌∙◌, List, ℕ, ℤ, [], ◌∷◌, ◌++◌, decimal, sym, w64, to_z, of_z}
use Rattle.std.specs.Prelude.{codes}
use Rattle.std.proofs.lemmas.Int.{to_z-of_z}
use Rattle.std.proofs.lemmas.Result.{err_from_is_err_and}
use Rattle.oas_num.proofs.PuttingLemmas.{begins, fails_at, ends, ◌▸◌}
use Rattle.oas_diff_text.specs.Fields.{size, coordinate, fields, places}
use Rattle.oas_diff_text.proofs.EntryLemmas.{left_is}
use Rattle.oas_diff_text.proofs.FieldLemmas.{points_last}
use Rattle.oas_diff_text.proofs.kinds.put_path.Goals as goal

pub returns-in_err-put_fields : goal.returns-in_err-put_fields
returns-in_err-put_fields g c =
    let p = err_from_is_err_and c.from_residual.result c.from_residual.ensures.1 in
    let scale = c.args.scale.now in
    let before : ℤ → ℤ → List (List ℕ × List ℕ) = λ s e. (codes "layer", decimal c.args.layer) ∷ (codes "datatype", decimal c.args.datatype)
    ∷ (codes "half_width", size scale c.args.half_width) ∷ (codes "start", coordinate scale s) ∷ (codes "end", coordinate scale e) ∷ [] in
    let start : to_z w64 (of_z w64 c.args.start) ≡ c.args.start = to_z-of_z w64 c.args.start c.ranges.start in
    let end : to_z w64 (of_z w64 c.args.end) ≡ c.args.end = to_z-of_z w64 c.args.end c.ranges.end in
    let whole = (λ i. fields c.args.syntax (before (sym start i) (sym end i) ++ (codes "points", places c.args.syntax scale c.args.points) ∷ []))
    ∙ points_last c.args.syntax scale (before (to_z w64 (of_z w64 c.args.start)) (to_z w64 (of_z w64 c.args.end))) c.args.points in
    rw p.1 (fails_at _ (left_is (begins _ _) whole) c.in_err-put_fields.ensures)

pub returns : goal.returns
returns g c =
    let scale = c.args.scale.now in
    let before : ℤ → ℤ → List (List ℕ × List ℕ) = λ s e. (codes "layer", decimal c.args.layer) ∷ (codes "datatype", decimal c.args.datatype)
    ∷ (codes "half_width", size scale c.args.half_width) ∷ (codes "start", coordinate scale s) ∷ (codes "end", coordinate scale e) ∷ [] in
    let start : to_z w64 (of_z w64 c.args.start) ≡ c.args.start = to_z-of_z w64 c.args.start c.ranges.start in
    let end : to_z w64 (of_z w64 c.args.end) ≡ c.args.end = to_z-of_z w64 c.args.end c.ranges.end in
    let whole = (λ i. fields c.args.syntax (before (sym start i) (sym end i) ++ (codes "points", places c.args.syntax scale c.args.points) ∷ []))
    ∙ points_last c.args.syntax scale (before (to_z w64 (of_z w64 c.args.start)) (to_z w64 (of_z w64 c.args.end))) c.args.points in
    ends _ _ (left_is (begins _ _) whole ▸ c.in_ok-put_fields.ensures) c.put_points.ensures
