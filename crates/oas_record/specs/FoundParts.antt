-- Numbers, strings, point lists and repetitions: it is decidable whether some bytes begin with one.
use Rattle.std.proofs.Common.{◌≡◌, ℕ, ℤ, ◌<◌, ◌≤◌, ◌^◌, ◌+◌, ◌%◌, Bool, true, false, List, [], ◌∷◌, ◌++◌, length, ◌⊎◌, inl, inr, refl, sym, ap, subst, ◌∙◌, arith}
use Rattle.std.proofs.lemmas.Bool.{cases_lt}
use Rattle.std.proofs.lemmas.Int.{ints, by_lt_z}
use Rattle.std.specs.Prelude.{◌≤ℤ◌, pos, ◌==◌}
use Rattle.std.specs.List.{AllByRecursion}
use Rattle.oas_num.specs.declared.deltas.Delta1.{Delta1}
use Rattle.oas_num.specs.declared.deltas.GDelta.{GDelta}
use Rattle.oas_num.specs.Grammar.{IsPair, IsSuch, IsImage, IsThere, IsCount, IsByte}
use Rattle.oas_num.specs.Laws.GrammarLaws.{PrefixFree-byte}
use Rattle.oas_num.specs.Integers.{IsClosed, value_of, IsUnsigned, IsSigned, signed_of}
use Rattle.oas_num.specs.Laws.IntegerLaws.{closed_same, PrefixFree-IsUnsigned}
use Rattle.oas_num.specs.Style.{Any}
use Rattle.oas_num.specs.Texts.{IsBetween, IsText, IsPositive, name_in, label_in, padding_of, padding_length, SpellsPadding}
use Rattle.oas_num.specs.Reals.{has_num, has_den, IsFraction, real_of, SpellsReal}
use Rattle.oas_num.specs.Deltas.{delta2_of, delta3_of, SpellsDelta1, SpellsGDelta, gdelta_of, has_second, IsNumbers}
use Rattle.oas_num.specs.Laws.DeltaLaws.{Delta1-one_front}
use Rattle.oas_shape.specs.declared.list_use.ListUse.{ListUse}
use Rattle.oas_shape.specs.declared.list_use.ListUse.TheVariants.{Polygon, Path}
use Rattle.oas_shape.specs.declared.repetitions.RepField.TheVariants.{New}
use Rattle.oas_shape.specs.Steps.{IsBounded, IsPartialSum}
use Rattle.oas_shape.specs.Offsets.{offsets_by}
use Rattle.oas_shape.specs.ListUses.{IsFitting}
use Rattle.oas_shape.specs.PointLists.{IsListKind, alternating, step2, step3, stepg, deltas_in, polyline_of, point_list_in}
use Rattle.oas_shape.specs.Repetitions.{IsRepetitionKind, AreTwo, matrix_of, columns_of, rows_of, lattice_of, line_of, x_space, y_space, grid_of, listed_of, repetition_by, again}
use Rattle.oas_shape.specs.Repetitions.{field_by, field_of, rep_field_in}
use Rattle.oas_record.specs.Found.{NoneIsSpelled, Settled, settled_number, settled_both, settled_either, Stands, IsFound, only, found_as, found_such, found_image, found_pair}
use Rattle.oas_record.specs.Found.{found_keyed, found_exactly, found_either, found_there, found_count}

-- ---- orders

pub settled_below : (a b : ℕ) → Settled (a < b)
settled_below a b = elim (cases_lt a b) [ inl less ↦ inl less | inr more ↦ inr (λ less. omega (arith, more, less)) ]

pub settled_upto : (a b : ℕ) → Settled (a ≤ b)
settled_upto a b = elim (cases_lt b a) [ inl less ↦ inr (λ most. omega (arith, most, less)) | inr most ↦ inl most ]

settled_int : (a b : ℤ) → Settled (a ≤ℤ b)
settled_int a b = by_lt_z b a (λ less. inr (λ most. omega (arith, ints, most, less))) (λ most. inl most)

-- ---- integers

abbrev Closed : Unit {0} → List ℕ → Type 0
Closed v bytes = IsClosed bytes

none_in_nil : (front rest : List ℕ) → IsClosed front → [] ≡ front ++ rest → ⊥
none_in_nil [] rest p e = p
none_in_nil (c ∷ cs) rest p e = cc

module _ (b : ℕ) (bs : List ℕ) (large : 128 ≤ b) where
  -- more groups have to follow
  unfinished : NoneIsSpelled Closed bs → (front rest : List ℕ) → IsClosed front → b ∷ bs ≡ front ++ rest → ⊥
  unfinished lacks [] rest p e = p
  unfinished lacks (c ∷ cs) rest p e =
      let head : b ≡ c = cc in
      let tail : bs ≡ cs ++ rest = cc in
      elim p [ inl last ↦ omega (arith, large, head, last.0) | inr more ↦ lacks.none tt cs rest more.2 tail ]

  -- it is no byte
  no_group : 256 ≤ b → (front rest : List ℕ) → IsClosed front → b ∷ bs ≡ front ++ rest → ⊥
  no_group past [] rest p e = p
  no_group past (c ∷ cs) rest p e =
      let head : b ≡ c = cc in
      elim p [ inl last ↦ omega (arith, large, head, last.0) | inr more ↦ omega (arith, past, head, more.1) ]

closed_at : (left : List ℕ) → Stands Closed left ⊎ NoneIsSpelled Closed left
closed_at [] = inr (record { none = λ v front rest p e. none_in_nil front rest p e })
closed_at (b ∷ bs) = elim (cases_lt b 128) [
  | inl small ↦ inl (record { value = tt; front = b ∷ []; rest = bs; spelled = inl (small, refl); joined = refl })
  | inr large ↦ elim (cases_lt b 256) [
    | inl byte ↦ elim (closed_at bs) [
      | inl s ↦ inl (record { value = tt; front = b ∷ s.front; rest = s.rest; spelled = inr (large, byte, s.spelled); joined = ap (λ (c : List ℕ). b ∷ c) s.joined })
      | inr lacks ↦ inr (record { none = λ v front rest p e. unfinished b bs large lacks front rest p e })
    ]
    | inr past ↦ inr (record { none = λ v front rest p e. no_group b bs large past front rest p e })
  ]
]

found_closed : IsFound Closed
found_closed = record { one = record { one = λ v w a b x y p q e. (closed_same a b x y p q e, refl) }; find = closed_at }

pub found_unsigned : IsFound IsUnsigned
found_unsigned = record { one = PrefixFree-IsUnsigned; find = find } where
  fits : (left : List ℕ) (s : Stands Closed left) → Settled ((length s.front ≤ 10) × (value_of s.front < 2 ^ 64)) → Stands IsUnsigned left ⊎ NoneIsSpelled IsUnsigned left
  fits left s (inl both) = inl (record {
    value = value_of s.front;
    front = s.front;
    rest = s.rest;
    spelled = record { closed = s.spelled; short = both.0; value = refl; fits = both.1 };
    joined = s.joined;
  })
  fits left s (inr not) = inr (record {
    none = λ v front rest p e.
        let same = (only found_closed.one s tt front rest p.closed e).front in
        not (subst (λ (c : List ℕ). length c ≤ 10) (sym same) p.short, subst (λ (n : ℕ). n < 2 ^ 64) (p.value ∙ ap value_of (sym same)) p.fits);
  })

  find : (left : List ℕ) → Stands IsUnsigned left ⊎ NoneIsSpelled IsUnsigned left
  find left = elim (found_closed.find left) [
    | inl s ↦ fits left s (settled_both (settled_upto (length s.front) 10) (settled_below (value_of s.front) (2 ^ 64)))
    | inr lacks ↦ inr (record { none = λ v front rest p e. lacks.none tt front rest p.closed e })
  ]

pub found_signed : IsFound IsSigned
found_signed = found_image signed_of found_unsigned

-- ---- strings

pub found_byte : IsFound IsByte
found_byte = record { one = PrefixFree-byte; find = find } where
  first : (b : ℕ) (bs : List ℕ) (v : ℕ) (front rest : List ℕ) → IsByte v front → b ∷ bs ≡ front ++ rest → b < 256
  first b bs v front rest p e =
      let h : b ∷ bs ≡ v ∷ rest = e ∙ ap (λ (c : List ℕ). c ++ rest) p.only in
      let same : b ≡ v = cc in
      omega (arith, same, p.small)

  nothing : (v : ℕ) (front rest : List ℕ) → IsByte v front → [] ≡ front ++ rest → ⊥
  nothing v front rest p e = let h : [] ≡ v ∷ rest = e ∙ ap (λ (c : List ℕ). c ++ rest) p.only in cc

  find : (left : List ℕ) → Stands IsByte left ⊎ NoneIsSpelled IsByte left
  find [] = inr (record { none = nothing })
  find (b ∷ bs) = elim (settled_below b 256) [
    | inl small ↦ inl (record { value = b; front = b ∷ []; rest = bs; spelled = record { only = refl; small = small }; joined = refl })
    | inr not ↦ inr (record { none = λ v front rest p e. not (first b bs v front rest p e) })
  ]

settled_between : (low high byte : ℕ) → Settled (IsBetween low high byte)
settled_between low high byte = settled_both (settled_upto low byte) (settled_upto byte high)

found_text : (low high count : ℕ) → IsFound (IsText (IsBetween low high) count)
found_text low high count = found_count count (found_such (IsBetween low high) (settled_between low high) found_byte)

pub found_name : IsFound (name_in Any)
found_name = found_keyed length (found_such IsPositive (settled_below 0) found_unsigned) (found_text 33 126)

pub found_label : IsFound (label_in Any)
found_label = found_keyed length found_unsigned (found_text 32 126)

pub found_padding : IsFound SpellsPadding
found_padding = found_keyed padding_length found_unsigned (λ count. found_image padding_of (found_count count found_byte))

-- ---- reals and deltas

pub found_real : IsFound SpellsReal
found_real = found_image real_of (found_pair (found_such IsFraction (λ kind. settled_below kind 6) found_unsigned)
    (λ kind. found_pair (found_there (has_num kind) found_unsigned) (λ _. found_there (has_den kind) found_unsigned)))

found_delta1 : IsFound SpellsDelta1
found_delta1 = record {
  one = Delta1-one_front;
  find = λ left. elim (found_signed.find left) [
    | inl s ↦ inl (record { value = (let d : Delta1 = record { 0 = s.value } in d); front = s.front; rest = s.rest; spelled = s.spelled; joined = s.joined })
    | inr lacks ↦ inr (record { none = λ v front rest p e. lacks.none v.0 front rest p e })
  ];
}

pub found_gdelta : IsFound SpellsGDelta
found_gdelta = found_as (IsImage gdelta_of IsNumbers) SpellsGDelta (λ v a p. p) (λ v a p. p)
    (found_image gdelta_of (found_pair found_unsigned (λ first. found_there (has_second first) found_unsigned)))

-- ---- point lists

found_deltas : (kind count : ℕ) → IsFound (deltas_in kind count)
found_deltas kind count =
    found_either (kind == 0) _ _ (found_image (alternating true) (found_count count found_delta1))
    (found_either (kind == 1) _ _ (found_image (alternating false) (found_count count found_delta1))
    (found_either (kind == 2) _ _ (found_count count (found_image step2 (found_image delta2_of found_unsigned)))
    (found_either (kind == 3) _ _ (found_count count (found_image step3 (found_image delta3_of found_unsigned)))
    (found_count count (found_image stepg found_gdelta)))))

settled_fitting : (purpose : ListUse) (kind count : ℕ) → Settled (IsFitting purpose kind count)
settled_fitting Polygon kind count = settled_both (settled_upto 2 count) (settled_either (settled_upto 2 kind) (settled_number (count % 2) 0))
settled_fitting Path kind count = inl tt

pub found_point_list : (purpose : ListUse) → IsFound (point_list_in Any purpose)
found_point_list purpose =
    found_image (polyline_of purpose)
    (found_pair (found_such IsListKind (λ kind. settled_below kind 6) found_unsigned) (λ kind.
    found_pair (found_such (IsFitting purpose kind) (settled_fitting purpose kind) found_unsigned) (found_deltas kind)))

-- ---- repetitions

found_two : IsFound AreTwo
found_two = found_pair found_unsigned (λ _. found_unsigned)

settled_near : (far : ℕ) (z : ℤ) → Settled (IsBounded far z)
settled_near far z = settled_both (settled_int _ z) (settled_int z (pos far))

settled_sums : (ds : List GDelta) → Settled (AllByRecursion IsPartialSum ds)
settled_sums [] = inl tt
settled_sums (d ∷ ds) = settled_both (by (settled_both (settled_near (2 ^ 62) d.dx) (settled_near (2 ^ 62) d.dy))) (settled_sums ds) where
  by : Settled (IsBounded (2 ^ 62) d.dx × IsBounded (2 ^ 62) d.dy) → Settled (IsPartialSum d)
  by (inl both) = inl (record { x = both.0; y = both.1 })
  by (inr not) = inr (λ near. not (near.x, near.y))

-- a list of displacements that are spelled like this
found_listed : {D : GDelta → List ℕ → Type 0} (has_grid : Bool) → IsFound D
    → IsFound (IsImage listed_of (IsPair IsUnsigned (λ dim. IsPair (IsThere has_grid IsUnsigned)
    (λ grid. IsSuch (AllByRecursion IsPartialSum) (IsImage (offsets_by (grid_of grid)) (IsCount D (dim + 1)))))))
found_listed has_grid f =
    found_image listed_of (found_pair found_unsigned (λ dim. found_pair (found_there has_grid found_unsigned)
    (λ grid. found_such (AllByRecursion IsPartialSum) settled_sums (found_image (offsets_by (grid_of grid)) (found_count (dim + 1) f)))))

found_repetition : (kind : ℕ) → IsFound (repetition_by kind)
found_repetition kind =
    found_either (kind == 1) _ _ (found_image matrix_of (found_pair found_two (λ _. found_two)))
    (found_either (kind == 2) _ _ (found_image columns_of found_two)
    (found_either (kind == 3) _ _ (found_image rows_of found_two)
    (found_either (kind == 4) _ _ (found_listed false (found_image x_space found_unsigned))
    (found_either (kind == 5) _ _ (found_listed true (found_image x_space found_unsigned))
    (found_either (kind == 6) _ _ (found_listed false (found_image y_space found_unsigned))
    (found_either (kind == 7) _ _ (found_listed true (found_image y_space found_unsigned))
    (found_either (kind == 8) _ _ (found_image lattice_of (found_pair found_two (λ _. found_pair found_gdelta (λ _. found_gdelta))))
    (found_either (kind == 9) _ _ (found_image line_of (found_pair found_unsigned (λ _. found_gdelta)))
    (found_either (kind == 10) _ _ (found_listed false found_gdelta)
    (found_listed true found_gdelta))))))))))

found_field : (kind : ℕ) → IsFound (field_by kind)
found_field kind = found_either (kind == 0) _ _ (found_image again (found_exactly [])) (found_image New (found_repetition kind))

pub found_rep_field : IsFound (rep_field_in Any)
found_rep_field = found_image field_of (found_pair (found_such IsRepetitionKind (λ kind. settled_below kind 12) found_unsigned) found_field)
