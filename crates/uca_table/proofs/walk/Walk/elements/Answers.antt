use Rattle.uca_table.proofs.Common.{sym, ap, ◌∙◌, find, get-entries, key_cmp, path_of, table_of_walk}
use Rattle.uca_table.proofs.EntryLemmas.{is-found}
use Rattle.uca_table.proofs.walk.Walk.elements.Goals as goal

pub returns : goal.returns
returns c =
    let w = c.args.self.now in let t = table_of_walk w in
    let is = is-found t (path_of w) c.elements.result c.show_table.ensures (c.elements.ensures ∙ ap (find key_cmp (path_of w)) w.same ∙ sym (get-entries t.entries (path_of w))) in
    record { value = is.value; some = is.some; few = is.few; elements = is.elements }
