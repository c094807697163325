use Rattle.std.proofs.Common.{◌≡◌, ◌<◌, length, arith, ap, ◌∙◌}
use Rattle.std.specs.List.{remove}
use Rattle.std.specs.FinMap.Entries as rows
use Rattle.dx_book.specs.Arrivals.{place_in}
use Rattle.dx_book.proofs.Arriving.{place_held, without_place}
use Rattle.dx_book.proofs.arrivals.forget.Goals as goal

pub remove-requires : goal.remove-requires
remove-requires c =
    let e : c.place_of_key-place.result ≡ place_in c.args.key c.args.keys.now.items = c.place_of_key-place.ensures ∙ ap (place_in c.args.key) c.as_slice.ensures.value in
    let h = place_held c.args.keys.now.items c.args.key c.requires.held in
    omega (arith, e, h)

pub returns-clause-keys : goal.returns-clause-keys
returns-clause-keys c =
    c.remove.ensures.items
    ∙ ap (remove c.args.keys.now.items) (c.place_of_key-place.ensures ∙ ap (place_in c.args.key) c.as_slice.ensures.value)
    ∙ without_place c.args.keys.now.items c.args.key c.requires.distinct c.requires.held
