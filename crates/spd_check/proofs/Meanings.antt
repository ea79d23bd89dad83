-- A code means what its program means.
use Rattle.std.proofs.Common.{◌≡◌, ◌∙◌, List, [], ap, sym, subst}
use Rattle.spd_syntax.specs.declared.tree.Item.{Item}
use Rattle.spd_code.specs.declared.tree.CodeTree.{CodeTree}
use Rattle.spd_meaning.specs.Programs.{most_calls}
use Rattle.spd_code.specs.Coded.{eval_block, around_of}
use Rattle.spd_code.specs.Alike.{IsCode}
use Rattle.spd_code.specs.Resolved.{program_code}
use Rattle.spd_code.proofs.AlikePrograms.{coded, main_alike}
use Rattle.spd_check.specs.Checked.{MeansItself}

pub means : (items : List Item) (tree : CodeTree) → tree ≡ program_code items → MeansItself items tree
means items tree e context column same k =
    let is : IsCode items context.code = subst (λ (t : CodeTree). IsCode items t) (sym (same ∙ e)) (coded items) in
    ap (λ (t : CodeTree). eval_block (around_of context most_calls) t.main []) (sym same) ∙ main_alike items context column k is
