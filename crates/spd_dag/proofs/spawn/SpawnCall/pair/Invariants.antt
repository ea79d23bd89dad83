use Rattle.spd_dag.proofs.spawn.SpawnCall.pair.Given as goal

abbrev pub ghosts-set_pair_of-P-Told : goal.ghosts-set_pair_of-P-Told
ghosts-set_pair_of-P-Told g a = record { told = (g.B.Body.view a.body.now).means }

abbrev pub ghosts-set_pair_of-Q-Told : goal.ghosts-set_pair_of-Q-Told
ghosts-set_pair_of-Q-Told g a = record { told = (g.B.Body.view a.rest.now).means }
