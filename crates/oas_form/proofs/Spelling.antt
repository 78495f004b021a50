-- The canonical bytes of a layout spell its canonical records.
use Rattle.std.proofs.Common.{◌≡◌, ℕ, ◌+◌, ◌<◌, ◌≤◌, ◌^◌, Bool, true, false, List, ◌∷◌, ◌++◌, map, refl, sym, arith, replicate, append_assoc, []}
use Rattle.std.specs.Prelude.{◌==◌, if◌then◌else◌, sum_by}
use Rattle.std.specs.List.{AllByRecursion}
use Rattle.std.proofs.lemmas.Bool.{eqb-true}
use Rattle.std.proofs.lemmas.List.{append-nil}
use Rattle.std.proofs.lemmas.List.Sums.{sum_by-cons}
use Rattle.oas_num.specs.declared.reals.Real.{Real}
use Rattle.oas_num.specs.Grammar.{IsPair, IsSuch, IsEach}
use Rattle.oas_num.specs.Style.{Shortest, IsShortest}
use Rattle.oas_num.specs.Laws.StyleLaws.{shortest-IsShortest}
use Rattle.oas_num.specs.Texts.{IsName, IsLabelByte}
use Rattle.oas_num.specs.Reals.{ShortestParts}
use Rattle.oas_num.specs.Ratio.{Ratio}
use Rattle.oas_num.specs.Writing.{shortest}
use Rattle.oas_record.specs.declared.records.Record.{Record}
use Rattle.oas_record.specs.declared.records.Record.TheVariants as record_of
use Rattle.oas_record.specs.declared.references.CellRef.TheVariants as cell
use Rattle.oas_record.specs.Heads.{magic, version, version_in, ShortestUnit, start_parts, head_in}
use Rattle.oas_record.specs.Ends.{end_bytes as ending}
use Rattle.oas_record.specs.Records.{record_in, IsInner}
use Rattle.oas_elements.specs.declared.element.Element.{Element}
use Rattle.oas_elements.specs.Weight.{weight_of}
use Rattle.oas_elements.specs.Meaning.{cells_weight}
use Rattle.oas_elements.specs.Sound.{IsSound, IsUnit}
use Rattle.oas_form.specs.Records.{Cells, element_record, records_of}
use Rattle.oas_form.specs.Bytes.{string_bytes, element_bytes, elements_bytes, cells_bytes, unit_bytes, head_bytes, end_bytes, canonical_bytes}
use Rattle.oas_form.specs.Spelling.{CanonicalBytesSpell}
use Rattle.oas_form.proofs.FieldSpelling.{small_spelled, text_spelled, name_spelled}
use Rattle.oas_form.proofs.ElementSpelling.{Inner, spelled}
use Rattle.oas_form.proofs.AllKinds.{of_element}

-- ---- records

pub cell_inner : (name : List ℕ) → IsName name → Inner (record_of.Cell (cell.Name name)) (14 ∷ string_bytes name)
cell_inner name h = record {
  inner = λ e. cc;
  small = omega arith;
  rest = string_bytes name;
  is = refl;
  after =
      record { from = cell.Name name; is = refl; spelled = record { from = name; is = refl; spelled = name_spelled name h } };
}

-- records, one after another
abbrev AreSpelled : List Record → List ℕ → Type 0
AreSpelled rs bytes = IsEach (IsSuch IsInner (record_in Shortest false)) rs bytes

elements_spelled : (es : List Element) (rs : List Record) (bytes : List ℕ) → AllByRecursion IsSound es → sum_by weight_of es ≤ 2 ^ 30 → AreSpelled rs bytes →
    AreSpelled (map element_record es ++ rs) (elements_bytes es ++ bytes)
elements_spelled [] rs bytes h light k = k
elements_spelled (e ∷ es) rs bytes h light k =
    let sum = sum_by-cons weight_of e es in (
      element_bytes e,
      elements_bytes es ++ bytes,
      spelled (element_record e) (element_bytes e) ((of_element e).inner h.0 (omega (arith, sum, light))),
      elements_spelled es rs bytes h.1
          (omega (arith, sum, light)) k,
      append_assoc (element_bytes e) (elements_bytes es) bytes,
    )

cells_spelled : (cs : Cells) → AllByRecursion (λ c. IsName c.0) cs → AllByRecursion (λ c. AllByRecursion IsSound c.1) cs → cells_weight cs ≤ 2 ^ 30 → AreSpelled (records_of cs) (cells_bytes cs)
cells_spelled [] names sound light = refl
cells_spelled (c ∷ cs) names sound light = (
  14 ∷ string_bytes c.0,
  elements_bytes c.1 ++ cells_bytes cs,
  spelled (record_of.Cell (cell.Name c.0)) (14 ∷ string_bytes c.0) (cell_inner c.0 names.0),
  elements_spelled c.1 (records_of cs) (cells_bytes cs) sound.0 (omega arith) (cells_spelled cs names.1 sound.1 (omega arith)),
  append_assoc (14 ∷ string_bytes c.0) (elements_bytes c.1) (cells_bytes cs),
)

-- ---- START

-- the unit as a real that isn't negative
abbrev real : Ratio → Real
real u = record { negative = false; num = u.num; den = u.den }

-- the real's type by two tests
real_by : (u : Ratio) (whole part : Bool) → (whole ≡ true → u.den ≡ 1) → (part ≡ true → u.num ≡ 1) → u.num < 2 ^ 64 → u.den < 2 ^ 64
    → IsPair IsShortest ShortestParts ((if whole then 0 else if part then 2 else 4) + 0, real u)
    (if whole then 0 ∷ shortest u.num else (if part then 2 ∷ shortest u.den else 4 ∷ (shortest u.num ++ shortest u.den)))
real_by u true part w p n d = record {
  front = 0 ∷ [];
  back = shortest u.num;
  first = small_spelled 0 (omega arith);
  joined = refl;
  second = record { front = shortest u.num; back = []; first = shortest-IsShortest u.num n; second = (refl, w refl); joined = sym (append-nil (shortest u.num)) };
}
real_by u false true w p n d = record {
  front = 2 ∷ [];
  back = shortest u.den;
  first = small_spelled 2 (omega arith);
  joined = refl;
  second = record { front = []; back = shortest u.den; first = (refl, p refl); second = shortest-IsShortest u.den d; joined = refl };
}
real_by u false false w p n d = record {
  front = 4 ∷ [];
  back = shortest u.num ++ shortest u.den;
  first = small_spelled 4 (omega arith);
  joined = refl;
  second = record { front = shortest u.num; back = shortest u.den; first = shortest-IsShortest u.num n; second = shortest-IsShortest u.den d; joined = refl };
}

unit_spelled : (u : Ratio) → IsUnit u → ShortestUnit u (unit_bytes u)
unfolding unit_bytes
unit_spelled u h = record { lowest = h.lowest; spelled = real_by u (u.den == 1) (u.num == 1) (λ e. eqb-true u.den 1 e) (λ e. eqb-true u.num 1 e) h.num h.den }

version_spelled : version_in Shortest tt (3 ∷ 0x31 ∷ 0x2E ∷ 0x30 ∷ [])
version_spelled = record {
  front = 3 ∷ [];
  back = version;
  first = small_spelled 3 (omega arith);
  second = record { len = refl; each = text_spelled IsLabelByte (λ b k. omega (arith, k.1)) version ((omega arith, omega arith), ((omega arith, omega arith), ((omega arith, omega arith), tt))) };
  joined = refl;
}

start_spelled : (u : Ratio) → IsUnit u → start_parts Shortest (1, (tt, (u, (0, tt)))) (1 ∷ 3 ∷ 0x31 ∷ 0x2E ∷ 0x30 ∷ (unit_bytes u ++ (0 ∷ replicate 12 0)))
start_spelled u h = record {
  front = 1 ∷ [];
  back = 3 ∷ 0x31 ∷ 0x2E ∷ 0x30 ∷ (unit_bytes u ++ (0 ∷ replicate 12 0));
  first = record { holds = refl; spelled = small_spelled 1 (omega arith) };
  joined = refl;
  second = record {
    front = 3 ∷ 0x31 ∷ 0x2E ∷ 0x30 ∷ [];
    back = unit_bytes u ++ (0 ∷ replicate 12 0);
    first = version_spelled;
    joined = refl;
    second = record {
      front = unit_bytes u;
      back = 0 ∷ replicate 12 0;
      first = unit_spelled u h;
      joined = refl;
      second = record { front = 0 ∷ []; back = replicate 12 0; first = record { holds = refl; spelled = small_spelled 0 (omega arith) }; joined = refl; second = refl };
    };
  };
}

pub head_spelled : (u : Ratio) → IsUnit u → head_in Shortest (record { unit = u; flag_in_end = false }) (head_bytes u)
unfolding head_bytes
head_spelled u h = record {
  from = (tt, record { unit = u; flag_in_end = false });
  is = refl;
  spelled = record {
    front = magic;
    back = 1 ∷ 3 ∷ 0x31 ∷ 0x2E ∷ 0x30 ∷ (unit_bytes u ++ (0 ∷ replicate 12 0));
    first = refl;
    second = record { from = (1, (tt, (u, (0, tt)))); is = refl; spelled = start_spelled u h };
    joined = refl;
  };
}

-- ---- END

pub end_spelled : record_in Shortest false record_of.End end_bytes
unfolding end_bytes ending
end_spelled = record {
  whole = λ e. refl;
  parts = record {
    front = 2 ∷ [];
    back = ending;
    first = small_spelled 2
        (omega arith);
    second = record { from = tt; is = refl; spelled = refl };
    joined = refl;
  };
}

-- ---- the file

pub canonical_spelled : CanonicalBytesSpell
unfolding canonical_bytes
canonical_spelled m h = record {
  spelled = record {
    front = head_bytes m.unit;
    back = cells_bytes m.cells ++ end_bytes;
    first = head_spelled m.unit h.unit;
    joined = refl;
    second = record { front = cells_bytes m.cells; back = end_bytes; first = cells_spelled m.cells h.names h.sound h.light; second = record { holds = refl; spelled = end_spelled }; joined = refl };
  };
}
