-- The line that is put is that of the answer which string_to_form promises.
use Rattle.letters.proofs.answer.Goals as goal

pub returns : goal.returns
returns c = record { answer = _; left = _; promised = c.string_to_form-written.ensures; line = c.put_answer.ensures }
