use Rattle.std.proofs.Common.{inl, refl}
use Rattle.client_book.proofs.Turned.{taken}
use Rattle.client_book.proofs.book.ClientBook.take.Goals as goal

pub returns-in-Ok : goal.returns-in-Ok
returns-in-Ok c =
    let old = c.args.self.now in
    taken old (record old { client = c.happen.new.client }) c.tell.new.self c.args.event c.in-Ok.act c.tell.result c.requires refl refl refl
    c.in-Ok.ensures.shown c.in-Ok.ensures.told c.tell.ensures

pub returns-in-Err : goal.returns-in-Err
returns-in-Err c = inl c.stop.ensures
