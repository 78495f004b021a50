-- What follows for a sink that compares.
use Rattle.std.proofs.Common.{[], inl, refl}
use Rattle.oas_form.specs.declared.comparing.Comparer.{Comparer}
use Rattle.oas_form.specs.Comparing.{Compares}

-- if nothing was put, nothing was given
pub Compares-none : (c : Comparer) → Compares c [] c
Compares-none c = record { same = λ e. (e, refl); other = λ e. inl e }
