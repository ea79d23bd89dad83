use Rattle.spd_work.proofs.told.fault_of.Given as goal

abbrev pub ghosts-fault_as : goal.ghosts-fault_as
ghosts-fault_as g a = record { told = (g.B.Body.view a.rest.now).means }
