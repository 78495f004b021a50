use Rattle.oas_prepare.proofs.BlockEnds.{fault_stops, fault_reasons, data_taken, data_stops}
use Rattle.oas_prepare.proofs.inside.take_block.Goals as goal

pub returns-in-Err : goal.returns-in-Err
returns-in-Err g c = λ records stands prepared. rw c.fault_why.ensures (fault_stops c.args.at 1073741824 c.in-Err.fault c.in-Err.ensures, fault_reasons c.args.at c.in-Err.fault c.in-Err.ensures)

pub returns-in-Ok-take_data : goal.returns-in-Ok-take_data
returns-in-Ok-take_data g c =
    data_taken g.C.CellStore.store c.args.flag_in_end c.args.at c.args.head (g.S.Source.script c.args.source.now) (g.S.Source.script c.read_block.new.source) c.args.preparation.now c.take_data.new.preparation
    c.in-Ok.block.data.items c.in-Ok.block.end c.in-Ok-take_data.last c.ended.result c.ended.ensures c.in-Ok.ensures c.in-Ok-take_data.ensures

pub returns : goal.returns
returns g c =
    rw c.in_block.ensures
    (data_stops g.C.CellStore.store c.args.flag_in_end c.args.at c.args.head (g.S.Source.script c.args.source.now) (g.S.Source.script c.read_block.new.source) c.args.preparation.now c.take_data.new.preparation
    c.in-Ok.block.data.items c.in-Ok.block.end c.in-Err-take_data.inner c.in-Ok.ensures c.in-Err-take_data.ensures)
