-- What follows from the definitions. Nothing here has to be trusted.
pub mod GrammarLaws
pub mod CombinatorLaws
pub mod BegunLaws
pub mod IntegerLaws
pub mod StyleLaws
pub mod TextLaws
pub mod RealLaws
pub mod WritingLaws
pub mod WrittenLaws
pub mod RatioLaws
pub mod DeltaLaws
