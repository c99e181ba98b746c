mod Bodies
mod Arguments
