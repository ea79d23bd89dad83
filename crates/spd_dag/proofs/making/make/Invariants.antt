use Rattle.spd_dag.proofs.making.make.Given as goal

abbrev pub ghosts-draw_make : goal.ghosts-draw_make
ghosts-draw_make g a = record { told = (g.B.Body.view a.body.now).means }
