use Rattle.std.proofs.Common.{◌∙◌, arith}
use Rattle.oas_reader.proofs.UsedTables.{table_longer}
use Rattle.oas_reader.proofs.used.Counts.begin_table.Goals as goal

pub returns-in_ok-resize : goal.returns-in_ok-resize
returns-in_ok-resize c =
    table_longer c.self.inside.table.items c.resize.new.self.items 1024 _ c.self.inside.others.entries (omega (arith, c.if-len-lt-TABLED.true, c.len.ensures, c.self.inside.table.ok)) c.in_ok-resize.ensures.items ∙ c.self.view_is
