-- A file is refused at no more than one place, and at none where it is accepted.
use Rattle.std.proofs.Common.{◌≡◌, ℕ, ◌+◌, List, [], ◌∷◌, ◌++◌, length, sym, ap, subst, ◌∙◌, arith}
use Rattle.std.proofs.lemmas.List.{append-nil, append_cancel_left, length-append}
use Rattle.oas_num.specs.Laws.GrammarLaws.{after_same}
use Rattle.oas_num.specs.Style.{Any}
use Rattle.oas_record.specs.declared.heads.Head.{Head}
use Rattle.oas_record.specs.declared.records.Record.{Record}
use Rattle.oas_record.specs.declared.records.Record.TheVariants.{End}
use Rattle.oas_record.specs.Heads.{magic, start_in, head_in}
use Rattle.oas_record.specs.Records.{record_in}
use Rattle.oas_record.specs.Laws.RecordLaws.{PrefixFree-record}
use Rattle.oas_elements.specs.declared.limits.Limits.{Limits}
use Rattle.oas_file.specs.Files.{PrefixOf}
use Rattle.oas_file.specs.Acceptance.{Allowed, IsWhole, Accepted}
use Rattle.oas_file.specs.Places.{AtMagic, AtStart, AtRecord, AfterEnd, AtEnd, ByMagic, ByStart, ByRecord, AfterLast, ByEnd, OnePlace, NoPlace}
use Rattle.oas_file.specs.Gathering.{inner_in}
use Rattle.oas_num.proofs.PrefixLemmas.{Compared, Same, More, Less, Fronts, Follows, ByItem, ByEnd, Opens, file_opens}
use Rattle.oas_file.proofs.Fronts.{allowed_prefix, item_in, last_in, parts, is_last, fronts, goes_on, ended}

same_length : (one other left right : List ℕ) → left ≡ right → one ++ left ≡ other ++ right → length one ≡ length other
same_length one other left right same e = omega (arith, ap length same, ap length e, length-append one left, length-append other right)

-- ---- where END is

record Ends (limits : Limits) (b : List ℕ) : Type 0 where
  head : Head
  records : List Record
  before : List ℕ
  last : List ℕ
  rest : List ℕ
  front : PrefixOf head records before
  allowed : Allowed limits records
  end : record_in Any head.flag_in_end End last
  joined : b ≡ before ++ (last ++ rest)

abbrev after_ends : {limits : Limits} {b : List ℕ} {at : ℕ} → AfterEnd limits b at → Ends limits b
after_ends a = record {
  head = a.head;
  records = a.records;
  before = a.before.before;
  last = a.last;
  rest = a.byte ∷ a.rest;
  front = a.before.front;
  allowed = a.before.allowed;
  end = a.end;
  joined = a.before.joined ∙ ap (λ (c : List ℕ). a.before.before ++ c) a.joined;
}

abbrev at_ends : {limits : Limits} {b : List ℕ} {at : ℕ} → AtEnd limits b at → Ends limits b
at_ends a = record {
  head = a.head;
  records = a.records;
  before = a.before.before;
  last = a.left;
  rest = [];
  front = a.before.front;
  allowed = a.before.allowed;
  end = a.end;
  joined = a.before.joined ∙ ap (λ (c : List ℕ). a.before.before ++ c) (sym (append-nil a.left));
}

abbrev accepted_ends : {limits : Limits} {b : List ℕ} → Accepted limits b → Ends limits b
accepted_ends a =
    let e = ended a.file in
    record {
      head = a.head;
      records = a.records;
      before = e.before;
      last = e.last;
      rest = [];
      front = e.front;
      allowed = a.allowed;
      end = e.end;
      joined = e.joined ∙ ap (λ (c : List ℕ). e.before ++ c) (sym (append-nil e.last));
    }

record SameEnds {limits : Limits} {b : List ℕ} (e f : Ends limits b) : Type 0 where
  records : e.records ≡ f.records
  place : length e.before ≡ length f.before
  last : e.last ≡ f.last
  rest : e.rest ≡ f.rest

-- no record before END is END
not_end : (head : Head) (r : Record) (front last rest more : List ℕ) → inner_in head.flag_in_end r front → record_in Any head.flag_in_end End last → last ++ more ≡ front ++ rest → ⊥
not_end head r front last rest more p end e = (parts.apart head).apart r End front last rest more p (is_last head.flag_in_end last end) (sym e)

ends_same : {limits : Limits} {b : List ℕ} (e f : Ends limits b) → SameEnds e f
ends_same e f = by (goes_on f.last (e.last ++ e.rest) f.rest e.front f.front f.end (sym e.joined ∙ f.joined)).follows where
  by : Follows (head_in Any) item_in last_in e.head e.records f.records End f.last (e.last ++ e.rest) f.rest → SameEnds e f
  by (ByEnd same end lefts) =
      let one = (PrefixFree-record Any e.head.flag_in_end).one End End e.last f.last e.rest f.rest e.end end.spelled lefts in
      record {
        records = same;
        place = same_length e.before f.before (e.last ++ e.rest) (f.last ++ f.rest) lefts (sym e.joined ∙ f.joined);
        last = one.0;
        rest = after_same e.last f.last e.rest f.rest one.0 lefts;
      }
  by (ByItem r tail front rest is one stands) = absurd (not_end e.head r front e.last rest e.rest one e.end stands)

-- a record of another prefix is one by which the records are still allowed
further : (limits : Limits) (rs ss : List Record) (r : Record) (tail : List Record) → ss ≡ (rs ++ r ∷ []) ++ tail → Allowed limits ss → Allowed limits (rs ++ r ∷ [])
further limits rs ss r tail is a = allowed_prefix limits (rs ++ r ∷ []) tail (subst (λ (all : List Record). Allowed limits all) is a)

record_not_end : {limits : Limits} {b : List ℕ} {at : ℕ} → AtRecord limits b at → Ends limits b → ⊥
record_not_end {limits = limits} a e = by (goes_on e.last a.left e.rest a.before.front e.front e.end (sym a.before.joined ∙ e.joined)).follows where
  by : Follows (head_in Any) item_in last_in a.head a.records e.records End e.last a.left e.rest → ⊥
  by (ByEnd same end lefts) = a.no_end e.last e.rest end.spelled lefts
  by (ByItem r tail front rest is one stands) = a.no_record.none r front rest (record { spelled = one.spelled; allowed = further limits a.records e.records r tail is e.allowed }) stands

records_same : {limits : Limits} {b : List ℕ} {p q : ℕ} → AtRecord limits b p → AtRecord limits b q → p ≡ q
records_same {limits = limits} {p = p} {q = q} a c = by both.items where
  both : Fronts (head_in Any) item_in a.head c.head a.records c.records a.left c.left
  both = fronts a.left c.left a.before.front c.before.front (sym a.before.joined ∙ c.before.joined)

  by : Compared (item_in a.head) a.records c.records a.left c.left → p ≡ q
  by (Same same lefts) = a.before.place ∙ same_length a.before.before c.before.before a.left c.left lefts (sym a.before.joined ∙ c.before.joined) ∙ sym c.before.place
  by (More r tail front rest is one stands) =
      absurd (a.no_record.none r front rest (record { spelled = one.spelled; allowed = further limits a.records c.records r tail is c.before.allowed }) stands)
  by (Less r tail front rest is one stands) =
      let spelled = subst (λ (h : Head). record_in Any h.flag_in_end r front) both.heads one.spelled in
      absurd (c.no_record.none r front rest (record { spelled = spelled; allowed = further limits c.records a.records r tail is a.before.allowed }) stands)

-- ---- before the records

-- the magic and START are there
record Begins (b : List ℕ) : Type 0 where
  head : Head
  opens : Opens magic (start_in Any) head b

front_begins : {head : Head} {rs : List Record} {b before : List ℕ} (left : List ℕ) → PrefixOf head rs before → b ≡ before ++ left → Begins b
front_begins {head = head} left f e = record { head = head; opens = subst (Opens magic (start_in Any) head) (sym e) (file_opens magic (start_in Any) left f.spelled) }

magic_not : {b : List ℕ} {at : ℕ} → AtMagic b at → Begins b → ⊥
magic_not a f = let o = f.opens in a.differs (o.front ++ o.rest) o.joined

start_not : {b : List ℕ} {at : ℕ} → AtStart b at → Begins b → ⊥
start_not a f = let o = f.opens in a.none.none f.head o.front o.rest o.spelled (append_cancel_left magic a.left (o.front ++ o.rest) (sym a.joined ∙ o.joined))

ends_begin : {limits : Limits} {b : List ℕ} → Ends limits b → Begins b
ends_begin e = front_begins (e.last ++ e.rest) e.front e.joined

record_begins : {limits : Limits} {b : List ℕ} {at : ℕ} → AtRecord limits b at → Begins b
record_begins a = front_begins a.left a.before.front a.before.joined

module _ {limits : Limits} {b : List ℕ} where
  last_of : {at : ℕ} (a : AfterEnd limits b at) → at ≡ length a.before.before + length a.last
  last_of a = omega (arith, a.place, a.before.place)

  after_at : {p q : ℕ} → AfterEnd limits b p → AtEnd limits b q → ⊥
  after_at a c = let s = (ends_same (after_ends a) (at_ends c)).rest in cc

pub one_place : OnePlace
one_place limits b p q (ByMagic a) (ByMagic c) = a.place ∙ sym c.place
one_place limits b p q (ByMagic a) (ByStart c) = absurd (a.differs c.left c.joined)
one_place limits b p q (ByMagic a) (ByRecord c) = absurd (magic_not a (record_begins c))
one_place limits b p q (ByMagic a) (AfterLast c) = absurd (magic_not a (ends_begin (after_ends c)))
one_place limits b p q (ByMagic a) (ByEnd c) = absurd (magic_not a (ends_begin (at_ends c)))
one_place limits b p q (ByStart a) (ByMagic c) = absurd (c.differs a.left a.joined)
one_place limits b p q (ByStart a) (ByStart c) = a.place ∙ sym c.place
one_place limits b p q (ByStart a) (ByRecord c) = absurd (start_not a (record_begins c))
one_place limits b p q (ByStart a) (AfterLast c) = absurd (start_not a (ends_begin (after_ends c)))
one_place limits b p q (ByStart a) (ByEnd c) = absurd (start_not a (ends_begin (at_ends c)))
one_place limits b p q (ByRecord a) (ByMagic c) = absurd (magic_not c (record_begins a))
one_place limits b p q (ByRecord a) (ByStart c) = absurd (start_not c (record_begins a))
one_place limits b p q (ByRecord a) (ByRecord c) = records_same a c
one_place limits b p q (ByRecord a) (AfterLast c) = absurd (record_not_end a (after_ends c))
one_place limits b p q (ByRecord a) (ByEnd c) = absurd (record_not_end a (at_ends c))
one_place limits b p q (AfterLast a) (ByMagic c) = absurd (magic_not c (ends_begin (after_ends a)))
one_place limits b p q (AfterLast a) (ByStart c) = absurd (start_not c (ends_begin (after_ends a)))
one_place limits b p q (AfterLast a) (ByRecord c) = absurd (record_not_end c (after_ends a))
one_place limits b p q (AfterLast a) (AfterLast c) = let s = ends_same (after_ends a) (after_ends c) in omega (arith, last_of a, last_of c, s.place, ap length s.last)
one_place limits b p q (AfterLast a) (ByEnd c) = absurd (after_at a c)
one_place limits b p q (ByEnd a) (ByMagic c) = absurd (magic_not c (ends_begin (at_ends a)))
one_place limits b p q (ByEnd a) (ByStart c) = absurd (start_not c (ends_begin (at_ends a)))
one_place limits b p q (ByEnd a) (ByRecord c) = absurd (record_not_end c (at_ends a))
one_place limits b p q (ByEnd a) (AfterLast c) = absurd (after_at c a)
one_place limits b p q (ByEnd a) (ByEnd c) = let s = ends_same (at_ends a) (at_ends c) in a.before.place ∙ s.place ∙ sym c.before.place

pub no_place : NoPlace
no_place limits b p a (ByMagic c) = magic_not c (ends_begin (accepted_ends a))
no_place limits b p a (ByStart c) = start_not c (ends_begin (accepted_ends a))
no_place limits b p a (ByRecord c) = record_not_end c (accepted_ends a)
no_place limits b p a (AfterLast c) = not_after (ends_same (after_ends c) (accepted_ends a)).rest where
  not_after : c.byte ∷ c.rest ≡ [] → ⊥
  not_after e = cc
no_place limits b p a (ByEnd c) = c.torn (subst (λ (rs : List Record). IsWhole limits rs) (sym (ends_same (at_ends c) (accepted_ends a)).records) a.whole)
