-- `fields::meta::DownlinkMetadata::from_bytes` meets its contract. Assumes nothing.
use Rattle.fields.proofs.meta.DownlinkMetadata.from_bytes.Goals as goal

pub returns : goal.returns
returns c = cc
