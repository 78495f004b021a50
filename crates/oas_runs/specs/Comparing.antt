-- Whether two lists of entries are the same, as a test.
use Rattle.std.specs.Prelude.{◌≡◌, Bool, ◌&&◌, ◌==◌, List}
use Rattle.std.proofs.Common.{ap}
use Rattle.std.specs.Bool.{Decides}
use Rattle.std.specs.Cmp.{IsPartialEquivalence, and_per, on_per, partial_equiv_from_equiv, nat_eq_equiv, first_so, second_so, unsigned_Decides}
use Rattle.std.specs.Cmp.Lexicographic.{pointwise, lists_per, nat_list_eq_equiv, bytes_decides, pointwise_decides}
use Rattle.oas_runs.specs.Entries.{Entry}

-- equal keys, and equal counts
abbrev pub same_entry : Entry → Entry → Bool
same_entry p q = pointwise ◌==◌ p.0 q.0 && (p.1 == q.1)

-- lists of entries are compared by an equivalence
pub same_entry_per : IsPartialEquivalence (pointwise same_entry)
same_entry_per = lists_per (and_per (on_per (λ (p : Entry). p.0) (partial_equiv_from_equiv nat_list_eq_equiv)) (on_per (λ (p : Entry). p.1) (partial_equiv_from_equiv nat_eq_equiv)))

-- the test holds exactly for equal entries
same_entry_decides : (p q : Entry) → Decides (same_entry p q) (p ≡ q)
same_entry_decides p q = (
  λ e. λ i. ((bytes_decides p.0 q.0).0 (first_so _ (p.1 == q.1) e) i, (unsigned_Decides p.1 q.1).0 (second_so (pointwise ◌==◌ p.0 q.0) _ e) i),
  λ e. λ i. (bytes_decides p.0 q.0).1 (ap (λ (u : Entry). u.0) e) i && (unsigned_Decides p.1 q.1).1 (ap (λ (u : Entry). u.1) e) i,
)

-- and that of lists for equal lists
pub same_entries_decide : (es fs : List Entry) → Decides (pointwise same_entry es fs) (es ≡ fs)
same_entries_decide = pointwise_decides same_entry_decides
