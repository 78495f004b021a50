use Rattle.oas_trapezoids.proofs.ShapeLemmas.{trapezoid_kept, named_kept, extension_kept, shape_read, extension_read}
use Rattle.oas_trapezoids.proofs.laws.shapes.Goals as goal

pub returns-clause-kept : goal.returns-clause-kept
returns-clause-kept c = λ s m k. record { trapezoid = trapezoid_kept s m k; named = named_kept s m k; extension = extension_kept s m k }

pub returns-clause-read : goal.returns-clause-read
returns-clause-read c = λ s reader standard a. record { shape = shape_read s reader standard a; extension = extension_read s reader standard a }
