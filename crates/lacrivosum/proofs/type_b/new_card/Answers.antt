-- `lacrivosum::type_b::new_card` meets its contract, by the laws `new_unmade` and `new_made`. Assumes nothing.
use Rattle.lacrivosum.specs.LibraryBLaws.{no_pupi, no_application, no_protocol, new_unmade, new_made}
use Rattle.lacrivosum.proofs.type_b.new_card.Goals as goal

pub returns-then-pupi-ne4 : goal.returns-then-pupi-ne4
returns-then-pupi-ne4 c = let a = c.args in
    new_unmade a.x a.pupi.now a.afi a.markers a.application.now a.protocol.now _ (no_pupi a.pupi.now a.application.now a.protocol.now c.if-pupi-ne4.true) c.unmade.ensures

pub returns-then-application-ne4 : goal.returns-then-application-ne4
returns-then-application-ne4 c = let a = c.args in
    new_unmade a.x a.pupi.now a.afi a.markers a.application.now a.protocol.now _ (no_application a.pupi.now a.application.now a.protocol.now c.if-pupi-ne4.false c.if-application-ne4.true) c.unmade-then-application-ne4.ensures

pub returns-then-protocol-ne3 : goal.returns-then-protocol-ne3
returns-then-protocol-ne3 c = let a = c.args in
    new_unmade a.x a.pupi.now a.afi a.markers a.application.now a.protocol.now _ (no_protocol a.pupi.now a.application.now a.protocol.now c.if-pupi-ne4.false c.if-application-ne4.false c.if-protocol-ne3.true) c.unmade-then-protocol-ne3.ensures

pub returns : goal.returns
returns c = let a = c.args in
    new_made a.x a.pupi.now a.afi a.markers a.application.now a.protocol.now _ _ _ _ _ c.if-pupi-ne4.false c.if-application-ne4.false c.if-protocol-ne3.false c.bytes_at.ensures c.bytes_at-2.ensures c.bytes_at-3.ensures c.speaks.ensures c.silent.ensures
