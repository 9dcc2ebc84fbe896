-- What is shown is by the kind and the number answered.
use Rattle.std.proofs.Common.{arith, rules}
use Rattle.octets.specs.Part.{repeated}
use Rattle.script_answers.specs.Answer.{buffer}
use Rattle.script_answers.proofs.RunLaw.{entry_number, other_number, numbered, refused_number, accepted_number}
use Rattle.script_answers.proofs.RunLaw.{sent_other, sent_refused, sent_entry}
use Rattle.script_answers.proofs.ScriptBox.send.Goals as goal
use Rattle.script_answers.proofs.ScriptBox.send.Goals.{in-Entry, in_default}
use Rattle.script_answers.proofs.ScriptBox.send.Goals.{then-not-matches-via-then-not-matches, then-not-matches-via-else-not-matches+then-is_err}

pub returns-then-not-matches : goal.returns-then-not-matches
unfolding buffer repeated
returns-then-not-matches c =
    let e = numbered _ _ _ _ _ _ c.command-answered.ensures c.number-number.ensures in
    let k = c.kind_numbered-k.result in
    elim c.then-not-matches.branch [
      | then-not-matches-via-then-not-matches w ↦ sent_other _ _ _ _ _ e
          (other_number _ _ k c.kind_numbered-k.ensures
          (elim c.match-matches.branch [ in-Entry x ↦ absurd (search rules) | in_default x ↦ x.in_default.not-Entry ]))
      | then-not-matches-via-else-not-matches+then-is_err w ↦ sent_refused _ _ _ _ _ e
          (entry_number _ _ k c.kind_numbered-k.ensures
          (elim c.match-matches.branch [ in-Entry x ↦ x.in-Entry.is | in_default x ↦ absurd (search rules) ]))
          (refused_number c.command-answered.result _ c.number-number.ensures (search rules))
    ]

pub returns : goal.returns
unfolding buffer repeated
returns c =
    let e = numbered _ _ _ _ _ _ c.command-answered.ensures c.number-number.ensures in
    let k = c.kind_numbered-k.result in
    sent_entry _ _ _ _ _ e
    (entry_number _ _ k c.kind_numbered-k.ensures
    (elim c.match-matches.branch [ in-Entry x ↦ x.in-Entry.is | in_default x ↦ absurd (search rules) ]))
    (accepted_number c.command-answered.result _ c.number-number.ensures (search rules)) _ _ c.load_u8.ensures (grind arith)
