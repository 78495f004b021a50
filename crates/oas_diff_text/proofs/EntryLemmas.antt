-- The parts of an entry.
use Rattle.std.proofs.Common.{◌≡◌, ℕ, List, [], ◌∷◌, ◌++◌, decimal, Option, refl, sym, ◌∙◌, ap, subst, append_assoc}
use Rattle.std.specs.Prelude.{codes}
use Rattle.std.proofs.lemmas.Grind.{flat_map-append}
use Rattle.oas_num.specs.Ratio.{Ratio}
use Rattle.oas_num.proofs.PuttingLemmas.{PutSoFar}
use Rattle.oas_elements.specs.declared.element.Element.{Element}
use Rattle.oas_diff_options.specs.declared.format.Syntax.TheVariants.{Json}
use Rattle.oas_diff_text.specs.Entries.{signed, object_line, kind_name, element_fields, cell_line, place_line, element_entry}
use Rattle.oas_diff_text.specs.Fields.{quoted, key, fields}

pub signed_parts : (sign count : ℕ) (text : List ℕ) → signed sign count text ≡ (sign ∷ 32 ∷ (decimal count ++ 32 ∷ [])) ++ text
signed_parts sign count text = ap (λ (b : List ℕ). sign ∷ 32 ∷ b) (sym (append_assoc (decimal count) (32 ∷ []) text))

pub place_parts : (name : List ℕ) → place_line name ≡ (64 ∷ 32 ∷ []) ++ cell_line name
place_parts name = refl

pub object_parts : (kind members : List ℕ) → object_line kind members ≡ (codes "{\"kind\":" ++ quoted kind) ++ (members ++ codes "}\n")
object_parts kind members = refl

-- an element's object, whose kind and cell are these bytes
pub entry_parts : (scale : Option Ratio) (sign count : ℕ) (e : Element) {kind bytes name : List ℕ} → kind ≡ kind_name e → bytes ≡ name → element_entry Json scale name sign count e
    ≡ (codes "{\"kind\":" ++ quoted kind) ++ (fields Json ((codes "sign", quoted (sign ∷ [])) ∷ (codes "count", decimal count) ∷ (codes "cell", quoted bytes) ∷ [])
    ++ (fields Json (element_fields Json scale e) ++ codes "}\n"))
entry_parts scale sign count e {kind = kind} {bytes = bytes} {name = name} k b =
    let place : List ℕ → List (List ℕ × List ℕ) = λ n. (codes "sign", quoted (sign ∷ [])) ∷ (codes "count", decimal count) ∷ (codes "cell", quoted n) ∷ [] in
    (λ i. object_line (sym k i) (flat_map-append (λ f. key Json f.0 ++ f.1) (place (sym b i)) (element_fields Json scale e) i))
    ∙ ap (λ (t : List ℕ). codes "{\"kind\":" ++ (quoted kind ++ t)) (append_assoc (fields Json (place bytes)) (fields Json (element_fields Json scale e)) (codes "}\n"))

-- what is left, in other words
pub left_is : {K : Type 0} {given : K → List ℕ → K → Type 0} {failures : K → ℕ} {whole b c : List ℕ} {old now : K} → PutSoFar given failures whole b old now → b
    ≡ c → PutSoFar given failures whole c old now
left_is {given = given} {failures = failures} {whole = whole} {old = old} {now = now} p e = subst (λ (x : List ℕ). PutSoFar given failures whole x old now) e p
