-- The command is sent, or sent with the page that is got first.
use Rattle.std.proofs.Common.{rules}
use Rattle.octets.specs.Part.{repeated}
use Rattle.script_answers.specs.Answer.{buffer}
use Rattle.script_answers.proofs.RunLaw.{within, content_of_lem, ran_plain, ran_page}
use Rattle.script_answers.proofs.ScriptBox.run.Goals as goal

pub returns-then-proof_length-eq0 : goal.returns-then-proof_length-eq0
returns-then-proof_length-eq0 c =
    ran_plain _ c.args.v _ _ _ _ c.kind_numbered-k.ensures c.content_length-n.ensures c.proof_length.ensures
    (content_of_lem _ _ (within c.kind_numbered-k.result _ c.content_length-n.ensures)) c.if-proof_length-eq0.true _ c.send.ensures

pub get_page-requires : goal.get_page-requires
unfolding buffer repeated
get_page-requires c = search rules

pub returns : goal.returns
returns c =
    ran_page _ c.args.v _ _ _ _ c.kind_numbered-k.ensures c.content_length-n.ensures c.proof_length.ensures
    (content_of_lem _ _ (within c.kind_numbered-k.result _ c.content_length-n.ensures)) c.if-proof_length-eq0.false _ _
    c.get_page.ensures.0 c.get_page.ensures.1 _ c.send-2.ensures
