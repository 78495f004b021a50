mod FillingLemmas
mod ReadingLemmas
mod ReportLemmas
mod PreparingLemmas
