use Rattle.std.proofs.Common.{rules}
use Rattle.oas_drawing.proofs.modal.ModalVariables.places.Goals as goal

pub places-requires : goal.places-requires
places-requires c = search rules
