use Rattle.std.proofs.Common.{◌≡◌, ◌+◌, ◌≤◌, ℕ, List, drop}
use Rattle.oas_keys.specs.declared.classes.Class.{Class}
use Rattle.oas_keys.specs.Numbers.{number_in, firsts_of, AreClasses}
use Rattle.oas_keys.proofs.classes.written_in.Given as goal

-- what is left of the number is written in the classes that are left
pub record Halfway (number first left : ℕ) (classes rest : List Class) : Type 0 where
  pub same : number_in classes 1 number ≡ number_in rest first left
  pub classes_fit : AreClasses rest
  pub firsts : first + firsts_of rest ≤ 255

abbrev pub invariant-loop-class : goal.invariant-loop-class
invariant-loop-class l = Halfway l.place l.first l.left l.classes (drop l.class-index l.classes)
