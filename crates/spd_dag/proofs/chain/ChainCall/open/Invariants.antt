use Rattle.spd_dag.proofs.chain.ChainCall.open.Given as goal

abbrev pub ghosts-set_root_of : goal.ghosts-set_root_of
ghosts-set_root_of g a = record { told = (g.B.Body.view a.body.now).means }
