use Rattle.std.proofs.Common.{refl}
use Rattle.flow_state.specs.Jobs.{value_answer}
use Rattle.flow_state.specs.Found.{found_of}
use Rattle.flow_state.specs.declared.found.Finding.TheVariants.{Gives}
use Rattle.sweep.proofs.Puts.{put-few, found-makes}
use Rattle.sweep.proofs.putting.put_value.Goals as goal

pub count-requires-clause-few : goal.count-requires-clause-few
count-requires-clause-few c =
    let answer = value_answer c.args.version c.args.node c.args.value in
    put-few c.args.book.now c.keep_found.new.self answer (found_of (Gives c.args.value)) c.requires refl c.keep_found.ensures

pub returns : goal.returns
returns c =
    let answer = value_answer c.args.version c.args.node c.args.value in
    found-makes c.args.book.now c.keep_found.new.self c.count.new.self answer (found_of (Gives c.args.value)) refl (λ graph s h. h)
    c.keep_found.ensures c.count.ensures
