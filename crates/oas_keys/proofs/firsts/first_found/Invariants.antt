use Rattle.std.proofs.Common.{◌≡◌, ◌+◌, ◌≤◌, ℕ, List, drop}
use Rattle.oas_keys.specs.declared.classes.Class.{Class}
use Rattle.oas_keys.specs.Numbers.{firsts_of, AreClasses}
use Rattle.oas_keys.specs.Reading.{least_with, more_with}
use Rattle.oas_keys.proofs.firsts.first_found.Given as goal

-- what is found is found in the classes that are left
pub record Halfway (first start base : ℕ) (classes rest : List Class) : Type 0 where
  pub least : least_with classes 1 first ≡ start + least_with rest base first
  pub more : more_with classes 1 first ≡ more_with rest base first
  pub classes_fit : AreClasses rest
  pub firsts : base + firsts_of rest ≤ 255
  pub low : base ≤ first

abbrev pub invariant-loop-class : goal.invariant-loop-class
invariant-loop-class l = Halfway l.first l.start l.base l.classes (drop l.class-index l.classes)
