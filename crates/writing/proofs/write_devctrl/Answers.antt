use Rattle.writing.proofs.write_devctrl.Goals as goal

pub returns : goal.returns
returns c = cc
