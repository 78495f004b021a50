-- How a record that isn't END is spelled in the shortest style, by its id and what follows it.
use Rattle.std.proofs.Common.{◌≡◌, ℕ, ◌<◌, false, List, ◌∷◌, refl, []}
use Rattle.oas_num.specs.Grammar.{IsSuch, IsByte}
use Rattle.oas_num.specs.Style.{Shortest}
use Rattle.oas_record.specs.declared.records.Record.{Record}
use Rattle.oas_record.specs.Records.{id_of, after_id, record_in, IsInner}
use Rattle.oas_form.proofs.FieldSpelling.{small_spelled}

-- a record that isn't END, by its id and what follows it
pub record Inner (r : Record) (bytes : List ℕ) : Type 0 where
  pub inner : IsInner r
  pub small : id_of r < 128
  pub rest : List ℕ
  pub after : after_id Shortest false (id_of r) r rest
  pub is : bytes ≡ id_of r ∷ rest

pub spelled : (r : Record) (bytes : List ℕ) → Inner r bytes → IsSuch IsInner (record_in Shortest false) r bytes
spelled r bytes h = record {
  holds = h.inner;
  spelled = record {
    whole = λ e. absurd (h.inner e);
    parts = record { front = id_of r ∷ []; back = h.rest; first = small_spelled (id_of r) h.small; second = h.after; joined = h.is };
  };
}

-- the info byte of an element record
pub info_byte : (allowed canonical : ℕ → Type 0) (info : ℕ) → allowed info → canonical info → info < 256 → IsSuch (λ n. allowed n × canonical n) IsByte info (info ∷ [])
info_byte allowed canonical info a c small = record { holds = (a, c); spelled = record { only = refl; small = small } }
