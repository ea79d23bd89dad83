use Rattle.spd_work.proofs.told.offer_of.Given as goal

abbrev pub ghosts-offer_as : goal.ghosts-offer_as
ghosts-offer_as g a = record { told = (g.B.Body.view a.rest.now).means }
