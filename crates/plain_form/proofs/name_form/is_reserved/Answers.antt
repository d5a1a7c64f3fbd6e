use Rattle.plain_form.specs.Reserved as words
use Rattle.plain_form.proofs.name_form.is_reserved.Goals as goal

pub returns : goal.returns
unfolding words.reserved
returns c = c.stands_in.ensures
