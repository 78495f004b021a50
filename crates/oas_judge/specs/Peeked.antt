-- The element of a record that is at hand.
use Rattle.std.specs.Prelude.{◌≡◌, IsTrue, Some}
use Rattle.oas_record.specs.declared.records.Record.TheVariants.{Rectangle}
use Rattle.oas_elements.specs.declared.element.Element.{Element}
use Rattle.oas_elements.specs.declared.profile.Profile.{Profile}
use Rattle.oas_elements.specs.Same.{normal}
use Rattle.oas_elements.specs.Sound.{Fits}
use Rattle.oas_writing.specs.Drawn.TheVariants.{Named}
use Rattle.oas_writing.specs.Records.{element_record}
use Rattle.oas_peek.specs.declared.rectangles.PeekedRectangle.{PeekedRectangle}
use Rattle.oas_peek.specs.declared.named.NamedOnce.{NamedOnce}
use Rattle.oas_peek.specs.Named.{named_record}
use Rattle.oas_peek.specs.declared.figures.PeekedFigure.{PeekedFigure}
use Rattle.oas_judge.specs.Candidates.{IsDrawable}
use Rattle.oas_judge.specs.Own.{own_drawn}

-- it gives all fields of this element, in the shortest style
pub record IsSpelledBy (ahead : PeekedRectangle) (e : Element) : Type 0 where
  pub shortest : IsTrue ahead.shortest
  pub drawn : own_drawn (Rectangle ahead.rectangle) ≡ Some (Named e)
  pub is : element_record e ≡ Rectangle ahead.rectangle
  pub fit : IsDrawable e
  pub fits : Fits e

-- its own fields are all those of this element
pub record IsNamedBy (next : NamedOnce) (e : Element) : Type 0 where
  pub drawn : own_drawn (named_record next) ≡ Some (Named e)
  pub is : element_record e ≡ named_record next
  pub fit : IsDrawable e
  pub fits : Fits e

-- it gives all fields of this element, in the shortest style, and the profile keeps that unchanged
pub record IsFigureBy (profile : Profile) (ahead : PeekedFigure) (e : Element) : Type 0 where
  pub shortest : IsTrue ahead.shortest
  pub drawn : own_drawn ahead.record ≡ Some (Named e)
  pub kept : e ≡ normal profile e
  pub fit : IsDrawable e
  pub fits : Fits e
