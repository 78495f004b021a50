-- What begins with a byte of a short number, and how that is read.
use Rattle.std.proofs.Common.{◌≡◌, ℕ, suc, get_or, ◌+◌, ◌-◌, ◌*◌, ◌^◌, ◌<◌, ◌≤◌, List, [], ◌∷◌, ◌++◌, length, take, drop, refl, sym, ap, ◌∙◌, arith}
use Rattle.std.proofs.lemmas.Bool.{lt-ltb, cond-true, cond-false, le-ltb}
use Rattle.oas_keys.specs.declared.classes.Class.{Class}
use Rattle.oas_keys.specs.Numbers.{number_in, AreClasses, unsigned_classes, signed_classes, full, single}
use Rattle.oas_keys.specs.Reading.{joined_digits, least_with, more_with}
use Rattle.oas_keys.proofs.ReadingLemmas.{reads, never_empty}

-- the unsigned classes from that of two bytes on, and from those of three and four
abbrev pub twos : List Class
twos = full 64 1 ∷ full 32 2 ∷ full 16 3 ∷ full 13 4 ∷ []

abbrev pub threes : List Class
threes = full 32 2 ∷ full 16 3 ∷ full 13 4 ∷ []

abbrev pub fours : List Class
fours = full 16 3 ∷ full 13 4 ∷ []

-- the signed ones from that of three bytes above 0 on, and from those before it
abbrev pub above_threes : List Class
above_threes = full 32 2 ∷ full 16 3 ∷ full 7 4 ∷ []

abbrev pub above_twos : List Class
above_twos = full 40 1 ∷ above_threes

abbrev pub ones : List Class
ones = single 63 ∷ above_twos

abbrev pub below_twos : List Class
below_twos = full 40 1 ∷ ones

abbrev pub below_threes : List Class
below_threes = full 32 2 ∷ below_twos

abbrev pub below_fours : List Class
below_fours = full 16 3 ∷ below_threes

abbrev pub farthest : Class
farthest = record { size = 2 ^ 62; firsts = 1; more = 8 }

-- the least number of these classes that begins with a byte, and how many bytes follow it
pub record Begin (cs : List Class) (base first least more : ℕ) : Type 0 where
  pub least_is : least_with cs base first ≡ least
  pub more_is : more_with cs base first ≡ more

-- the same by another sum
begin_as : (cs : List Class) (base first least other more : ℕ) → Begin cs base first other more → other ≡ least → Begin cs base first least more
begin_as cs base first least other more h e = record { least_is = h.least_is ∙ e; more_is = h.more_is }

-- in the first class
here : (c : Class) (cs : List Class) (base first : ℕ) → first < base + c.firsts → Begin (c ∷ cs) base first ((first - base) * 2 ^ (8 * c.more)) c.more
here c cs base first h =
    record {
      least_is = cond-true _ _ _ (lt-ltb first (base + c.firsts) h);
      more_is = cond-true _ _ _ (lt-ltb first (base + c.firsts) h);
    }

-- in those after it
past : (c : Class) (cs : List Class) (base first least more : ℕ) → base + c.firsts ≤ first → Begin cs (base + c.firsts) first least more → Begin (c ∷ cs) base first (c.size + least) more
past c cs base first least more h b =
    record {
      least_is = cond-false _ _ _ (le-ltb first (base + c.firsts) h) ∙ ap (λ (t : ℕ). c.size + t) b.least_is;
      more_is = cond-false _ _ _ (le-ltb first (base + c.firsts) h) ∙ b.more_is;
    }

-- ---- unsigned ones

pub first_one : (first : ℕ) → 1 ≤ first → first < 129 → Begin unsigned_classes 1 first (first - 1) 0
first_one first l h = begin_as _ _ _ _ _ _ (here (single 128) twos 1 first h) (omega arith)

pub first_two : (first : ℕ) → 129 ≤ first → first < 193 → Begin unsigned_classes 1 first (128 + (first - 129) * 256) 1
first_two first l h = past (single 128) twos 1 first _ _ l (here (full 64 1) threes 129 first h)

pub first_three : (first : ℕ) → 193 ≤ first → first < 225 → Begin unsigned_classes 1 first (16512 + (first - 193) * 65536) 2
first_three first l h =
    begin_as _ _ _ _ _ _ (past (single 128) twos 1 first _ _ (omega arith) (past (full 64 1) threes 129 first _ _ l (here (full 32 2) fours 193 first h))) (omega arith)

pub first_four : (first : ℕ) → 225 ≤ first → first < 241 → Begin unsigned_classes 1 first (2113664 + (first - 225) * 16777216) 3
first_four first l h =
    begin_as _ _ _ _ _ _
    (past (single 128) twos 1 first _ _ (omega arith)
    (past (full 64 1) threes 129 first _ _ (omega arith) (past (full 32 2) fours 193 first _ _ l (here (full 16 3) (full 13 4 ∷ []) 225 first h))))
    (omega arith)

-- ---- signed ones

-- after the classes of nine and five bytes
first_past_five : (first least more : ℕ) → 9 ≤ first → Begin below_fours 9 first least more → Begin signed_classes 1 first (2 ^ 62 + 7 * 2 ^ 32 + least) more
first_past_five first least more l b =
    begin_as _ _ _ _ _ _ (past farthest (full 7 4 ∷ below_fours) 1 first _ _ (omega arith) (past (full 7 4) below_fours 2 first _ _ l b)) (omega arith)

pub first_below_four : (first : ℕ) → 9 ≤ first → first < 25 → Begin signed_classes 1 first (2 ^ 62 + 7 * 2 ^ 32 + (first - 9) * 16777216) 3
first_below_four first l h = first_past_five first _ _ l (here (full 16 3) below_threes 9 first h)

-- after that of four
first_past_four : (first least more : ℕ) → 25 ≤ first → Begin below_threes 25 first least more → Begin signed_classes 1 first (2 ^ 62 + 7 * 2 ^ 32 + 16 * 2 ^ 24 + least) more
first_past_four first least more l b = begin_as _ _ _ _ _ _ (first_past_five first _ _ (omega arith) (past (full 16 3) below_threes 9 first _ _ l b)) (omega arith)

pub first_below_three : (first : ℕ) → 25 ≤ first → first < 57 → Begin signed_classes 1 first (2 ^ 62 + 7 * 2 ^ 32 + 16 * 2 ^ 24 + (first - 25) * 65536) 2
first_below_three first l h = first_past_four first _ _ l (here (full 32 2) below_twos 25 first h)

-- after that of three
first_past_three : (first least more : ℕ) → 57 ≤ first → Begin below_twos 57 first least more → Begin signed_classes 1 first (2 ^ 62 + 7 * 2 ^ 32 + 16 * 2 ^ 24 + 2097152 + least) more
first_past_three first least more l b = begin_as _ _ _ _ _ _ (first_past_four first _ _ (omega arith) (past (full 32 2) below_twos 25 first _ _ l b)) (omega arith)

pub first_below_two : (first : ℕ) → 57 ≤ first → first < 97 → Begin signed_classes 1 first (2 ^ 62 + 7 * 2 ^ 32 + 16 * 2 ^ 24 + 2097152 + (first - 57) * 256) 1
first_below_two first l h = first_past_three first _ _ l (here (full 40 1) ones 57 first h)

-- after that of two
first_past_two : (first least more : ℕ) → 97 ≤ first → Begin ones 97 first least more → Begin signed_classes 1 first (2 ^ 62 + 7 * 2 ^ 32 + 16 * 2 ^ 24 + 2097152 + 10240 + least) more
first_past_two first least more l b = begin_as _ _ _ _ _ _ (first_past_three first _ _ (omega arith) (past (full 40 1) ones 57 first _ _ l b)) (omega arith)

pub first_about : (first : ℕ) → 97 ≤ first → first < 160 → Begin signed_classes 1 first (2 ^ 62 + 7 * 2 ^ 32 + 16 * 2 ^ 24 + 2097152 + 10240 + (first - 97)) 0
first_about first l h = begin_as _ _ _ _ _ _ (first_past_two first _ _ l (here (single 63) above_twos 97 first h)) (omega arith)

-- after that of one
first_past_one : (first least more : ℕ) → 160 ≤ first → Begin above_twos 160 first least more → Begin signed_classes 1 first (2 ^ 62 + 7 * 2 ^ 32 + 16 * 2 ^ 24 + 2097152 + 10240 + 63 + least) more
first_past_one first least more l b = begin_as _ _ _ _ _ _ (first_past_two first _ _ (omega arith) (past (single 63) above_twos 97 first _ _ l b)) (omega arith)

pub first_above_two : (first : ℕ) → 160 ≤ first → first < 200 → Begin signed_classes 1 first (2 ^ 62 + 7 * 2 ^ 32 + 16 * 2 ^ 24 + 2097152 + 10240 + 63 + (first - 160) * 256) 1
first_above_two first l h = first_past_one first _ _ l (here (full 40 1) above_threes 160 first h)

pub first_above_three : (first : ℕ) → 200 ≤ first → first < 232 → Begin signed_classes 1 first (2 ^ 62 + 7 * 2 ^ 32 + 16 * 2 ^ 24 + 2097152 + 10240 + 63 + 10240 + (first - 200) * 65536) 2
first_above_three first l h =
    begin_as _ _ _ _ _ _ (first_past_one first _ _ (omega arith) (past (full 40 1) above_threes 160 first _ _ l (here (full 32 2) (full 16 3 ∷ full 7 4 ∷ []) 200 first h))) (omega arith)

pub first_above_four : (first : ℕ) → 232 ≤ first → first < 248 → Begin signed_classes 1 first (2 ^ 62 + 7 * 2 ^ 32 + 16 * 2 ^ 24 + 2097152 + 10240 + 63 + 10240 + 2097152 + (first - 232) * 16777216) 3
first_above_four first l h =
    begin_as _ _ _ _ _ _
    (first_past_one first _ _ (omega arith)
    (past (full 40 1) above_threes 160 first _ _ (omega arith)
    (past (full 32 2) (full 16 3 ∷ full 7 4 ∷ []) 200 first _ _ l (here (full 16 3) (full 7 4 ∷ []) 232 first h))))
    (omega arith)

-- ---- what is read

-- what comes after a first byte is there, and no more than fits
pub record Behind (least more n : ℕ) (rest after : List ℕ) : Type 0 where
  pub some : (more ≤ 8) × (more ≤ length after) × (least + joined_digits 0 (take more after) < 2 ^ 64)
  pub number : least + joined_digits 0 (take more after) ≡ n
  pub rest_is : drop more after ≡ rest

pub behind : (cs : List Class) (n first least more : ℕ) (rest after : List ℕ) → AreClasses cs → n < 2 ^ 64 → first ∷ after ≡ number_in cs 1 n ++ rest
    → Begin cs 1 first least more → Behind least more n rest after
behind cs n first least more rest after fits small is b =
    let h = reads cs n first (first ∷ after) rest after fits small is refl in
    let e = b.least_is in
    let f = b.more_is in
    let few = h.few in
    let long = h.long in
    let value : least + joined_digits 0 (take more after) ≡ n = (λ i. sym e i + joined_digits 0 (take (sym f i) after)) ∙ h.value in
    record {
      some = (omega arith, omega arith, omega arith);
      number = value;
      rest_is = (λ i. drop (sym f i) after) ∙ h.rest_is;
    }

-- bytes with a number in front, by their first
pub headed : (cs : List Class) (n first : ℕ) (rest bytes : List ℕ) → bytes ≡ number_in cs 1 n ++ rest → first ≡ get_or bytes 0 0
    → (0 < length bytes) × (first ∷ drop 1 bytes ≡ number_in cs 1 n ++ rest)
headed cs n first rest [] is was = absurd (never_empty cs n [] rest is refl)
headed cs n first rest (byte ∷ after) is was = (omega arith, ap (λ (t : ℕ). t ∷ after) was ∙ is)

-- how such a number is read from them
pub record Front (least more n : ℕ) (rest bytes : List ℕ) : Type 0 where
  pub long : more + 1 ≤ length bytes
  pub number : least + joined_digits 0 (take more (drop 1 bytes)) ≡ n
  pub rest_is : drop (suc more) bytes ≡ rest

pub front : (cs : List Class) (n first least more : ℕ) (rest bytes : List ℕ) → AreClasses cs → n < 2 ^ 64 → bytes ≡ number_in cs 1 n ++ rest
    → first ≡ get_or bytes 0 0 → Begin cs 1 first least more → Front least more n rest bytes
front cs n first least more rest [] fits small is was b = absurd (never_empty cs n [] rest is refl)
front cs n first least more rest (byte ∷ after) fits small is was b =
    let h = behind cs n first least more rest after fits small (headed cs n first rest (byte ∷ after) is was).1 b in
    let long = h.some.1 in
    record { long = omega arith; number = h.number; rest_is = h.rest_is }

-- its first byte isn't 0
pub first_some : (cs : List Class) (n first : ℕ) (rest bytes : List ℕ) → AreClasses cs → n < 2 ^ 64 → bytes ≡ number_in cs 1 n ++ rest
    → first ≡ get_or bytes 0 0 → 1 ≤ first
first_some cs n first rest bytes fits small is was = (reads cs n first _ rest (drop 1 bytes) fits small (headed cs n first rest bytes is was).1 refl).some
