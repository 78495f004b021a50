pub mod FillingLaws
